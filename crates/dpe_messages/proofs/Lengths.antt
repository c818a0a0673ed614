-- How long the encodings are.
use Rattle.std.proofs.Common.{◌≡◌, ℕ, ◌^◌, ◌<◌, ◌≤◌, length, refl, arith}
use Rattle.std.proofs.lemmas.Bool.{lt-ltb, le-ltb}
use Rattle.dpe_cbor.specs.Encoding.{head}

pub head_len_1 : (major n : ℕ) → n < 24 → length (head major n) ≡ 1
unfolding head
head_len_1 major n lt = let e = lt-ltb n 24 lt in rw e refl

pub head_len_2 : (major n : ℕ) → 24 ≤ n → n < 256 → length (head major n) ≡ 2
unfolding head
head_len_2 major n le lt = let e = le-ltb n 24 le in let f = lt-ltb n 256 lt in rw (e, f) refl

pub head_len_3 : (major n : ℕ) → 256 ≤ n → n < 65536 → length (head major n) ≡ 3
unfolding head
head_len_3 major n le lt = let d : 24 ≤ n = omega arith in let e = le-ltb n 24 d in let f = le-ltb n 256 le in let g = lt-ltb n 65536 lt in rw (e, f, g) refl

pub head_len_5 : (major n : ℕ) → 65536 ≤ n → n < 2 ^ 32 → length (head major n) ≡ 5
unfolding head
head_len_5 major n le lt =
    let d : 24 ≤ n = omega arith in let b : 256 ≤ n = omega arith in
    let e = le-ltb n 24 d in let f = le-ltb n 256 b in let g = le-ltb n 65536 le in let h = lt-ltb n 4294967296 lt in rw (e, f, g, h) refl

pub head_len_9 : (major n : ℕ) → 2 ^ 32 ≤ n → length (head major n) ≡ 9
unfolding head
head_len_9 major n le =
    let d : 24 ≤ n = omega arith in let b : 256 ≤ n = omega arith in let k : 65536 ≤ n = omega arith in
    let e = le-ltb n 24 d in let f = le-ltb n 256 b in let g = le-ltb n 65536 k in let h = le-ltb n 4294967296 le in rw (e, f, g, h) refl
