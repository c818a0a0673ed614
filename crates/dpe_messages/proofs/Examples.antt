-- The definitions compute: classes of payloads by hand.
use Rattle.std.proofs.Common.{◌≡◌, [], ◌∷◌, refl}
use Rattle.dpe_cbor.specs.Heads.{head_at}
use Rattle.dpe_cbor.specs.Decoding.{argument_of, content_of, text_of, bool_of, key_of}
use Rattle.dpe_messages.specs.Reading.{outer_of, inner_of, flat_map_of, entries_of, entry_of, value_of}
use Rattle.dpe_messages.specs.Request.{request, get_profile}
use Rattle.dpe_messages.specs.Class.{refused, accepted, class_of, class}

-- [0, [1, {}]]
profile : class (0x82 ∷ 0x00 ∷ 0x43 ∷ 0x82 ∷ 0x01 ∷ 0xa0 ∷ []) ≡ accepted get_profile
unfolding class class_of request outer_of inner_of flat_map_of entries_of argument_of content_of head_at
profile = refl

-- the session 5 written in two bytes
not_shortest : class (0x82 ∷ 0x18 ∷ 0x05 ∷ 0x43 ∷ 0x82 ∷ 0x01 ∷ 0xa0 ∷ []) ≡ refused 2
unfolding class class_of request outer_of inner_of flat_map_of entries_of argument_of content_of head_at
not_shortest = refl

-- CertifyKey
left_out : class (0x82 ∷ 0x00 ∷ 0x43 ∷ 0x82 ∷ 0x09 ∷ 0xa0 ∷ []) ≡ refused 16
unfolding class class_of request outer_of inner_of flat_map_of entries_of argument_of content_of head_at
left_out = refl

-- InitializeContext with simulation
outside : class (0x82 ∷ 0x00 ∷ 0x45 ∷ 0x82 ∷ 0x07 ∷ 0xa1 ∷ 0x01 ∷ 0xf5 ∷ []) ≡ refused 16
unfolding class class_of request outer_of inner_of flat_map_of entries_of entry_of value_of text_of bool_of key_of argument_of content_of head_at
outside = refl
