use Rattle.std.proofs.Common.{sym}
use Rattle.dpe_messages.proofs.Lengths.{head_len_1, head_len_2, head_len_3, head_len_5, head_len_9}
use Rattle.dpe_messages.proofs.message.head_len.Goals as goal

pub returns-then-argument-lt24-clause-len : goal.returns-then-argument-lt24-clause-len
returns-then-argument-lt24-clause-len c = λ major. sym (head_len_1 major c.args.argument c.if-argument-lt24.true)

pub returns-then-argument-lt256-clause-len : goal.returns-then-argument-lt256-clause-len
returns-then-argument-lt256-clause-len c = λ major. sym (head_len_2 major c.args.argument c.if-argument-lt24.false c.if-argument-lt256.true)

pub returns-then-argument-lt65536-clause-len : goal.returns-then-argument-lt65536-clause-len
returns-then-argument-lt65536-clause-len c = λ major. sym (head_len_3 major c.args.argument c.if-argument-lt256.false c.if-argument-lt65536.true)

pub returns-then-argument-lt4294967296-clause-len : goal.returns-then-argument-lt4294967296-clause-len
returns-then-argument-lt4294967296-clause-len c = λ major. sym (head_len_5 major c.args.argument c.if-argument-lt65536.false c.if-argument-lt4294967296.true)

pub returns-clause-len : goal.returns-clause-len
returns-clause-len c = λ major. sym (head_len_9 major c.args.argument c.if-argument-lt4294967296.false)
