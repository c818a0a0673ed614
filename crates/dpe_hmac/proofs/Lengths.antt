-- A code has the length of a digest.
use Rattle.std.proofs.Common.{◌≡◌, ℕ, List, length, refl}
use Rattle.sha2.specs.Sha512.{sha512, digest_bytes}
use Rattle.dpe_hmac.specs.Hmac.{hmac}

pub length-hmac : (key m : List ℕ) → length (hmac key m) ≡ 64
unfolding hmac sha512 digest_bytes
length-hmac key m = refl
