-- Quotes: symmetric evidence of what was booted.
use Rattle.std.specs.Prelude.{◌≡◌, ℕ, ◌≤◌, List, [], ◌∷◌, length, codes, All}
use Rattle.dpe_cbor.specs.Item.{Item, uint, bytes, array, Items, no_items, item}
use Rattle.dpe_cbor.specs.Encoding.{encoding}
use Rattle.dpe_inputs.specs.declared.Input.{Input}
use Rattle.dpe_inputs.specs.Cdi.{attest_cdi, signature}

-- A nonce, a claimed path, and the tag that was given for the nonce.
pub record Quote : Type 0 where
  pub nonce : List ℕ
  pub path : List Input
  pub tag : List ℕ

-- the lengths and the mode of an input
pub record IsInput (x : Input) : Type 0 where
  pub code : length x.code ≡ 64
  pub config : length x.config ≡ 64
  pub authority : length x.authority ≡ 64
  pub mode : x.mode ≤ 3
  pub hidden : length x.hidden ≡ 64

abbrev pub depth_limit : ℕ
depth_limit = 32

-- a nonce of 8 to 64 bytes, a path of at most 32 inputs, and a tag of 64 bytes
pub record IsQuote (q : Quote) : Type 0 where
  pub least : 8 ≤ length q.nonce
  pub most : length q.nonce ≤ 64
  pub depth : length q.path ≤ depth_limit
  pub inputs : All IsInput q.path
  pub tag : length q.tag ≡ 64

-- an input is the array of its code, configuration, authority, mode and hidden input
abbrev pub input_item : Input → Item
input_item x =
    array (item (bytes x.code) (item (bytes x.config) (item (bytes x.authority) (item (uint x.mode) (item (bytes x.hidden) no_items)))))

abbrev pub input_items : List Input → Items
input_items [] = no_items
input_items (x ∷ path) = item (input_item x) (input_items path)

-- a quote is the array of its nonce, its path and its tag, deterministically encoded (RFC 8949, 4.2.1)
abbrev pub quote_item : Quote → Item
quote_item q = array (item (bytes q.nonce) (item (array (input_items q.path)) (item (bytes q.tag) no_items)))

unfoldable pub quote_bytes : Quote → List ℕ
quote_bytes q = encoding (quote_item q)

-- the tag that a context with this path gives for a nonce
abbrev pub tag_for : List ℕ → List Input → List ℕ → List ℕ
tag_for seed path nonce = signature (attest_cdi seed path) (codes "DPE-QUOTE") nonce

-- it proves its path to a holder of the seed
abbrev pub Proves : List ℕ → Quote → Type 0
Proves seed q = q.tag ≡ tag_for seed q.path q.nonce
