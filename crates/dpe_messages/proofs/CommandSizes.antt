-- A command in its ranges fits in a payload; and the table that a writer makes is the command's.
use Rattle.std.proofs.Common.{◌≡◌, ℕ, ◌+◌, ◌<◌, ◌≤◌, Bool, true, false, cond, List, [], ◌∷◌, length, Option, Some, None, sym, subst, arith, Bor}
use Rattle.std.specs.Prelude.{IfSome}
use Rattle.std.specs.Option.{option_map}
use Rattle.dpe_messages.specs.FlatMap.{Value, number, byte_string, truth}
use Rattle.dpe_messages.specs.Message.{Row, present, message}
use Rattle.dpe_messages.specs.Request.{Configuration, inline, descriptor, DeriveRequest, SignRequest, SealRequest, UnsealRequest, Request, get_profile, initialize, derive, sign, seal, unseal, rotate, destroy}
use Rattle.dpe_messages.specs.CommandRows.{unless_empty, unless_number, if_true, unless_true, inline_value, descriptor_value, derive_rows, sign_rows, seal_rows, unseal_rows, command_rows, number_of_request, command_payload, IsInlineRight, IsShort}
use Rattle.dpe_messages.specs.Ranges.{IsConfiguration, IsDerive, IsSign, IsSeal, IsUnseal, IsHandle, InRanges}
use Rattle.dpe_messages.specs.Commands.{configuration_of}
use Rattle.dpe_messages.specs.declared.command.Config.{Config}
use Rattle.dpe_messages.specs.declared.command.Config.TheVariants.{Inline, Descriptor}
use Rattle.dpe_messages.proofs.Sizes.{IsSmallRow, row_size, message_fits}

abbrev Bounded : ℕ → Option Value → ℕ → Type 0
Bounded k v n = IsSmallRow k v × (row_size k v ≤ n)

bounded_none : (k n : ℕ) → Bounded k None n
bounded_none k n = (tt, omega arith)

bounded_bytes : (k : ℕ) (b : List ℕ) (most : ℕ) → k < 65536 → most < 65536 → length b ≤ most → Bounded k (Some (byte_string b)) (6 + most)
bounded_bytes k b most lt small le = ((lt, omega (arith, le, small)), omega (arith, le))

bounded_number : (k n : ℕ) → k < 65536 → n < 65536 → Bounded k (Some (number n)) 6
bounded_number k n lt small = ((lt, small), omega arith)

bounded_truth : (k : ℕ) (b : Bool) → k < 65536 → Bounded k (Some (truth b)) 6
bounded_truth k b lt = ((lt, tt), omega arith)

bounded_cond : (t : Bool) (k : ℕ) (v w : Option Value) (n : ℕ) → Bounded k v n → Bounded k w n → Bounded k (cond t v w) n
bounded_cond true k v w n one two = one
bounded_cond false k v w n one two = two

bounded_label : (b : List ℕ) → length b ≤ 64 → Bounded 2 (unless_empty b) 70
bounded_label b le = bounded_cond _ 2 None (Some (byte_string b)) 70 (bounded_none 2 70) (bounded_bytes 2 b 64 (omega arith) (omega arith) le)

bounded_if : (k : ℕ) (b : Bool) → k < 65536 → Bounded k (if_true b) 6
bounded_if k b lt = bounded_cond b k (Some (truth true)) None 6 (bounded_truth k true lt) (bounded_none k 6)

bounded_unless : (k : ℕ) (b : Bool) → k < 65536 → Bounded k (unless_true b) 6
bounded_unless k b lt = bounded_cond b k None (Some (truth b)) 6 (bounded_none k 6) (bounded_truth k b lt)

bounded_other : (k default n : ℕ) → k < 65536 → n < 65536 → Bounded k (unless_number default n) 6
bounded_other k default n lt small = bounded_cond _ k None (Some (number n)) 6 (bounded_none k 6) (bounded_number k n lt small)

bounded_inline : (c : Configuration) → IsConfiguration c → Bounded 3 (inline_value c) 70
bounded_inline (inline b) is = bounded_bytes 3 b 64 (omega arith) (omega arith) (omega (arith, is))
bounded_inline (descriptor d) is = bounded_none 3 70

bounded_descriptor : (c : Configuration) → IsConfiguration c → Bounded 4 (descriptor_value c) 1030
bounded_descriptor (inline b) is = bounded_none 4 1030
bounded_descriptor (descriptor d) is = bounded_bytes 4 d 1024 (omega arith) (omega arith) is

bounded_hidden : (h : Option (List ℕ)) → IfSome h (λ b. length b ≡ 64) → Bounded 7 (option_map byte_string h) 70
bounded_hidden None is = bounded_none 7 70
bounded_hidden (Some h) is = bounded_bytes 7 h 64 (omega arith) (omega arith) (omega (arith, is))

bounded_locality : (l : Option ℕ) → IfSome l (λ n. n ≤ 7) → Bounded 10 (option_map number l) 6
bounded_locality None is = bounded_none 10 6
bounded_locality (Some l) is = bounded_number 10 l (omega arith) (omega (arith, is))

bounded_handle : (h : Option (List ℕ)) → IfSome h IsHandle → Bounded 1 (option_map byte_string h) 22
bounded_handle None is = bounded_none 1 22
bounded_handle (Some h) is = bounded_bytes 1 h 16 (omega arith) (omega arith) (omega (arith, is))

derive_fits : (d : DeriveRequest) → IsDerive d → length (command_payload (derive d)) ≤ 4096
derive_fits d is =
    let a = bounded_inline d.config is.config in
    let b = bounded_descriptor d.config is.config in
    let h = bounded_hidden d.hidden is.hidden in
    let r = bounded_if 8 d.retain (omega arith) in
    let m = bounded_unless 9 d.may_derive (omega arith) in
    let l = bounded_locality d.locality is.locality in
    let n = bounded_handle d.handle is.handle in
    let c = bounded_if 12 d.child_default (omega arith) in
    message_fits 8 (derive_rows d) (omega arith) (
      n.0,
      (
        (omega arith, omega (arith, is.code)),
        (a.0, (b.0, ((omega arith, omega (arith, is.authority)), ((omega arith, omega (arith, is.mode)), (h.0, (r.0, (m.0, (l.0, (c.0, tt))))))))),
      ),
    ) (omega (arith, n.1, is.code, is.authority, a.1, b.1, h.1, r.1, m.1, l.1, c.1))

sign_fits : (s : SignRequest) → IsSign s → length (command_payload (sign s)) ≤ 4096
sign_fits s is =
    let n = bounded_handle s.handle is.handle in
    let l = bounded_label s.label is.label in
    let r = bounded_if 3 s.retain (omega arith) in
    message_fits 10 (sign_rows s) (omega arith)
    (n.0, (l.0, (r.0, ((omega arith, tt), ((omega arith, omega (arith, is.message)), tt)))))
    (omega (arith, n.1, is.message, l.1, r.1))

seal_fits : (s : SealRequest) → IsSeal s → length (command_payload (seal s)) ≤ 4096
seal_fits s is =
    let n = bounded_handle s.handle is.handle in
    let l = bounded_label s.label is.label in
    let r = bounded_if 3 s.retain (omega arith) in
    let a = bounded_other 4 255 s.localities (omega arith) (omega (arith, is.localities)) in
    let m = bounded_other 5 15 s.modes (omega arith) (omega (arith, is.modes)) in
    message_fits 11 (seal_rows s) (omega arith)
    (n.0, (l.0, (r.0, (a.0, (m.0, ((omega arith, omega (arith, is.plain)), tt))))))
    (omega (arith, n.1, is.plain, l.1, r.1, a.1, m.1))

unseal_fits : (u : UnsealRequest) → IsUnseal u → length (command_payload (unseal u)) ≤ 4096
unseal_fits u is =
    let n = bounded_handle u.handle is.handle in
    let l = bounded_label u.label is.label in
    let r = bounded_if 3 u.retain (omega arith) in
    message_fits 12 (unseal_rows u) (omega arith)
    (n.0, (l.0, (r.0, ((omega arith, omega (arith, is.sealed)), tt))))
    (omega (arith, n.1, is.sealed, l.1, r.1))

destroy_fits : (handle : Option (List ℕ)) (recursive : Bool) → IfSome handle IsHandle → length (command_payload (destroy handle recursive)) ≤ 4096
destroy_fits handle recursive is =
    let n = bounded_handle handle is in
    let r = bounded_if 2 recursive (omega arith) in
    message_fits 15 (command_rows (destroy handle recursive)) (omega arith) (n.0, (r.0, tt)) (omega (arith, n.1, r.1))

rotate_fits : (handle : Option (List ℕ)) (default : Bool) → IfSome handle IsHandle → length (command_payload (rotate handle default)) ≤ 4096
rotate_fits handle default is =
    let n = bounded_handle handle is in
    let r = bounded_if 2 default (omega arith) in
    message_fits 14 (command_rows (rotate handle default)) (omega arith) (n.0, (r.0, tt)) (omega (arith, n.1, r.1))

initialize_fits : (default : Bool) → length (command_payload (initialize default)) ≤ 4096
initialize_fits default =
    let r = bounded_if 2 default (omega arith) in
    message_fits 7 (command_rows (initialize default)) (omega arith) (r.0, tt) (omega (arith, r.1))

pub command_fits : (r : Request) → InRanges r → length (command_payload r) ≤ 4096
command_fits get_profile is = message_fits 1 [] (omega arith) tt (omega arith)
command_fits (initialize default) is = initialize_fits default
command_fits (derive d) is = derive_fits d is
command_fits (sign s) is = sign_fits s is
command_fits (seal s) is = seal_fits s is
command_fits (unseal u) is = unseal_fits u is
command_fits (rotate handle default) is = rotate_fits handle default is
command_fits (destroy handle recursive) is = destroy_fits handle recursive is

-- ---- the tables that a writer makes

pub derive_table : (d : DeriveRequest) (handle code a b authority mode h r m l c : Option Value) → handle ≡ option_map byte_string d.handle → code ≡ Some (byte_string d.code)
    → a ≡ inline_value d.config → b ≡ descriptor_value d.config → authority ≡ Some (byte_string d.authority) → mode ≡ Some (number d.mode) → h ≡ option_map byte_string d.hidden
    → r ≡ if_true d.retain → m ≡ unless_true d.may_derive → l ≡ option_map number d.locality → c ≡ if_true d.child_default
    → (1, handle) ∷ (2, code) ∷ (3, a) ∷ (4, b) ∷ (5, authority) ∷ (6, mode) ∷ (7, h) ∷ (8, r) ∷ (9, m) ∷ (10, l) ∷ (12, c) ∷ [] ≡ derive_rows d
derive_table d handle code a b authority mode h r m l c e1 e2 e3 e4 e5 e6 e7 e8 e9 e10 e12 =
    λ i. (1, e1 i) ∷ (2, e2 i) ∷ (3, e3 i) ∷ (4, e4 i) ∷ (5, e5 i) ∷ (6, e6 i) ∷ (7, e7 i) ∷ (8, e8 i) ∷ (9, e9 i) ∷ (10, e10 i) ∷ (12, e12 i) ∷ []

pub sign_table : (s : SignRequest) (handle l r : Option Value) → handle ≡ option_map byte_string s.handle → l ≡ unless_empty s.label → r ≡ if_true s.retain
    → (1, handle) ∷ (2, l) ∷ (3, r) ∷ (4, Some (truth true)) ∷ (5, Some (byte_string s.message)) ∷ [] ≡ sign_rows s
sign_table s handle l r e1 e2 e3 = λ i. (1, e1 i) ∷ (2, e2 i) ∷ (3, e3 i) ∷ (4, Some (truth true)) ∷ (5, Some (byte_string s.message)) ∷ []

pub seal_table : (s : SealRequest) (handle l r a m : Option Value) → handle ≡ option_map byte_string s.handle → l ≡ unless_empty s.label → r ≡ if_true s.retain
    → a ≡ unless_number 255 s.localities → m ≡ unless_number 15 s.modes
    → (1, handle) ∷ (2, l) ∷ (3, r) ∷ (4, a) ∷ (5, m) ∷ (6, Some (byte_string s.plain)) ∷ [] ≡ seal_rows s
seal_table s handle l r a m e1 e2 e3 e4 e5 = λ i. (1, e1 i) ∷ (2, e2 i) ∷ (3, e3 i) ∷ (4, e4 i) ∷ (5, e5 i) ∷ (6, Some (byte_string s.plain)) ∷ []

pub unseal_table : (u : UnsealRequest) (handle l r : Option Value) → handle ≡ option_map byte_string u.handle → l ≡ unless_empty u.label → r ≡ if_true u.retain
    → (1, handle) ∷ (2, l) ∷ (3, r) ∷ (5, Some (byte_string u.sealed)) ∷ [] ≡ unseal_rows u
unseal_table u handle l r e1 e2 e3 = λ i. (1, e1 i) ∷ (2, e2 i) ∷ (3, e3 i) ∷ (5, Some (byte_string u.sealed)) ∷ []

pub initialize_table : (default : Bool) (r : Option Value) → r ≡ if_true default → (2, r) ∷ [] ≡ command_rows (initialize default)
initialize_table default r e2 = λ i. (2, e2 i) ∷ []

pub rotate_table : (handle : Option (List ℕ)) (default : Bool) (h r : Option Value) → h ≡ option_map byte_string handle → r ≡ if_true default
    → (1, h) ∷ (2, r) ∷ [] ≡ command_rows (rotate handle default)
rotate_table handle default h r e1 e2 = λ i. (1, e1 i) ∷ (2, e2 i) ∷ []

pub destroy_table : (handle : Option (List ℕ)) (recursive : Bool) (h r : Option Value) → h ≡ option_map byte_string handle → r ≡ if_true recursive
    → (1, h) ∷ (2, r) ∷ [] ≡ command_rows (destroy handle recursive)
destroy_table handle recursive h r e1 e2 = λ i. (1, e1 i) ∷ (2, e2 i) ∷ []

-- a table that is the command's fits
pub table_fits : (k : ℕ) (rows : List Row) (r : Request) → k ≡ number_of_request r → rows ≡ command_rows r → InRanges r → length (message k (present rows)) ≤ 4096
table_fits k rows r ek er is =
    let same : message k (present rows) ≡ command_payload r = λ i. message (ek i) (present (er i)) in
    subst (λ (b : List ℕ). length b ≤ 4096) (sym same) (command_fits r is)

pub table_written : (k : ℕ) (rows : List Row) (r : Request) → k ≡ number_of_request r → rows ≡ command_rows r → message k (present rows) ≡ command_payload r
table_written k rows r ek er = λ i. message (ek i) (present (er i))

pub config_fits : (c : Config) → IsShort c → IsInlineRight (configuration_of c) → IsConfiguration (configuration_of c)
config_fits (Inline b) short right = right
config_fits (Descriptor d) short right = short

pub hidden_fits : (h : Option (Bor (List ℕ))) → IfSome h (λ b. length b.now ≡ 64) → IfSome (option_map (λ b. b.now) h) (λ b. length b ≡ 64)
hidden_fits None is = is
hidden_fits (Some h) is = is
