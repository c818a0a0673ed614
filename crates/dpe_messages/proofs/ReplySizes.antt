-- A reply that may be sent fits in a payload.
use Rattle.std.proofs.Common.{◌≡◌, ℕ, ◌≤◌, ◌<◌, List, [], ◌∷◌, length, Option, Some, None, inl, inr, sym, subst, arith}
use Rattle.std.specs.Option.{option_map}
use Rattle.dpe_messages.specs.FlatMap.{Value, byte_string}
use Rattle.dpe_messages.specs.Message.{message, present}
use Rattle.dpe_messages.specs.Replies.{Response, refused, profile, handle, derived, made, done, IsRefusalCode, IsSendable, reply_payload, reply_rows}
use Rattle.dpe_messages.proofs.Sizes.{message_fits}

code_fits : (code : ℕ) → IsRefusalCode code → code < 65536
code_fits code (inl is) = omega (arith, is)
code_fits code (inr (inl is)) = omega (arith, is)
code_fits code (inr (inr (inl is))) = omega (arith, is)
code_fits code (inr (inr (inr is))) = omega (arith, is.1)

pub reply_fits : (r : Response) → IsSendable r → length (reply_payload r) ≤ 4096
reply_fits (refused code) is = message_fits code [] (code_fits code is) tt (omega arith)
reply_fits profile is = message_fits 0 (reply_rows profile) (omega arith) ((omega arith, omega arith), ((omega arith, omega arith), ((omega arith, omega arith), ((omega arith, omega arith), tt)))) (omega arith)
reply_fits (handle h) is = message_fits 0 (reply_rows (handle h)) (omega arith) ((omega arith, omega (arith, is)), tt) (omega (arith, is))
reply_fits (derived child None) is = message_fits 0 (reply_rows (derived child None)) (omega arith) ((omega arith, omega (arith, is.0)), (tt, tt)) (omega (arith, is.0))
reply_fits (derived child (Some parent)) is =
    message_fits 0 (reply_rows (derived child (Some parent))) (omega arith) ((omega arith, omega (arith, is.0)), ((omega arith, omega (arith, is.1)), tt)) (omega (arith, is.0, is.1))
reply_fits (made None b) is = message_fits 0 (reply_rows (made None b)) (omega arith) (tt, ((omega arith, omega (arith, is.1)), tt)) (omega (arith, is.1))
reply_fits (made (Some h) b) is =
    message_fits 0 (reply_rows (made (Some h) b)) (omega arith) ((omega arith, omega (arith, is.0)), ((omega arith, omega (arith, is.1)), tt)) (omega (arith, is.0, is.1))
reply_fits done is = message_fits 0 [] (omega arith) tt (omega arith)

-- the tables that a writer makes
pub derived_fits : (child : List ℕ) (parent : Option (List ℕ)) (value : Option Value) → value ≡ option_map byte_string parent → IsSendable (derived child parent)
    → length (message 0 (present ((1, Some (byte_string child)) ∷ (2, value) ∷ []))) ≤ 4096
derived_fits child parent value is sendable =
    subst (λ (v : Option Value). length (message 0 (present ((1, Some (byte_string child)) ∷ (2, v) ∷ []))) ≤ 4096) (sym is) (reply_fits (derived child parent) sendable)

pub made_fits : (h : Option (List ℕ)) (b : List ℕ) (value : Option Value) → value ≡ option_map byte_string h → IsSendable (made h b)
    → length (message 0 (present ((1, value) ∷ (2, Some (byte_string b)) ∷ []))) ≤ 4096
made_fits h b value is sendable =
    subst (λ (v : Option Value). length (message 0 (present ((1, v) ∷ (2, Some (byte_string b)) ∷ []))) ≤ 4096) (sym is) (reply_fits (made h b) sendable)
