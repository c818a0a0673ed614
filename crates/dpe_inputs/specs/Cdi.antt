-- The compound device identifiers (CDIs) of a path of inputs, after the Open Profile for DICE, and the
-- signature under one.
use Rattle.std.specs.Prelude.{ℕ, List, [], ◌∷◌, ◌++◌, Some, None, codes}
use Rattle.std.specs.List.{fold}
use Rattle.sha2.specs.Sha512.{sha512}
use Rattle.dpe_hmac.specs.Hmac.{hmac}
use Rattle.dpe_hkdf.specs.Hkdf.{hkdf, labelled}
use Rattle.dpe_inputs.specs.declared.Input.{Input}

-- the configuration input that stands for a descriptor
abbrev pub configuration : List ℕ → List ℕ
configuration descriptor = sha512 descriptor

-- all inputs of a layer
abbrev pub measured : Input → List ℕ
measured x = x.code ++ x.config ++ x.authority ++ x.mode ∷ [] ++ x.hidden

-- those that a sealed box outlives a change of are left out: code and configuration
abbrev pub lasting : Input → List ℕ
lasting x = x.authority ++ x.mode ∷ [] ++ x.hidden

-- one step: the parent's CDI, extracted with the digest of the layer's inputs as salt
abbrev pub attest_step : List ℕ → Input → List ℕ
attest_step cdi x = hkdf (Some (sha512 (measured x))) cdi (codes "CDI_Attest") 32

abbrev pub seal_step : List ℕ → Input → List ℕ
seal_step cdi x = hkdf (Some (sha512 (lasting x))) cdi (codes "CDI_Seal") 32

-- the CDI for attestation, and that for sealing, of a path from the seed on
abbrev pub attest_cdi : List ℕ → List Input → List ℕ
attest_cdi seed path = fold attest_step seed path

abbrev pub seal_cdi : List ℕ → List Input → List ℕ
seal_cdi seed path = fold seal_step seed path

-- the signature of a message under a label, by an attestation CDI
unfoldable pub signature : List ℕ → List ℕ → List ℕ → List ℕ
signature cdi label message = hmac (hkdf None cdi (labelled (codes "DPE-SIGN") label) 64) message
