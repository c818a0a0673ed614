use Rattle.std.proofs.Common.{◌≡◌, ◌+◌, length}
use Rattle.std.specs.Int.{div_ceil}
use Rattle.dpe_chacha.specs.ChaCha20.{combined, blocks}
use Rattle.dpe_chacha.proofs.Stream.{at_word}
use Rattle.dpe_chacha.proofs.apply.Given as goal

abbrev pub invariant-loop-i : goal.invariant-loop-i
invariant-loop-i l = (l.rng ≡ at_word l.key l.nonce (l.counter + l.i) 0) × (l.text ≡ combined l.fn.text (blocks l.key l.nonce l.counter l.i)) × (l.i-end ≡ div_ceil (length l.fn.text) 64)
