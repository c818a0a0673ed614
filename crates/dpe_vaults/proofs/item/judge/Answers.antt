use Rattle.std.proofs.Common.{◌≡◌, ℕ, ◌-◌, ◌<◌, ◌≤◌, List, ◌++◌, length, take, get_or, w16, rules, refl, ap, sym, subst, ◌∙◌, arith}
use Rattle.std.specs.Int.{from_be_bytes}
use Rattle.dpe_vaults.specs.Calls.{Call, IsCall, least_name, most_name, most_sealed}
use Rattle.dpe_vaults.specs.Items.{item_bytes, NeedsMore}
use Rattle.dpe_vaults.proofs.ItemParts.{wrong_length, short_sealed, all_length, is_whole, two_list, told_range, most_sealed_within, most_name_within}
use Rattle.dpe_vaults.proofs.item.judge.Goals as goal

pub returns-then-length-most_sealed : goal.returns-then-length-most_sealed
returns-then-length-most_sealed c =
    let told = c.split_at-3.result.0.now in
    let number : c.from-length.result ≡ from_be_bytes w16 told =
    c.from-length.ensures ∙ c.from_be_bytes.ensures ∙ ap (from_be_bytes w16) (two_list told c.split_at-3.ensures.front_len) in (
      omega arith,
      wrong_length c.args.bytes.now c.split_at.result.0.now c.split_at.result.1.now c.split_at.ensures.by_index.0 c.split_at.ensures.front_len
          c.in-Some.op c.in-Some.ensures.found c.split_at-2.result.0.now c.split_at-2.result.1.now c.split_at-3.result.0.now c.split_at-3.result.1.now
          c.split_at-2.ensures.by_index.0 c.split_at-3.ensures.by_index.0 (c.split_at-2.ensures.front_len ∙ c.from-size.ensures) c.split_at-3.ensures.front_len
          (omega (arith, number, c.most_sealed.ensures, c.if-length-most_sealed.true)),
    )

pub returns-then-behind-length : goal.returns-then-behind-length
returns-then-behind-length c =
    let told = c.split_at-3.result.0.now in
    let number : c.from-length.result ≡ from_be_bytes w16 told =
    c.from-length.ensures ∙ c.from_be_bytes.ensures ∙ ap (from_be_bytes w16) (two_list told c.split_at-3.ensures.front_len) in
    let most : get_or c.split_at.result.0.now 2 0 ≤ most_name c.in-Some.op = search rules in
    let all = all_length c.args.bytes.now c.split_at.result.0.now c.split_at.result.1.now c.split_at.ensures.by_index.0 c.split_at.ensures.front_len
    c.in-Some.op c.in-Some.ensures.found c.split_at-2.result.0.now c.split_at-2.result.1.now c.split_at-3.result.0.now c.split_at-3.result.1.now
    c.split_at-2.ensures.by_index.0 c.split_at-3.ensures.by_index.0 (c.split_at-2.ensures.front_len ∙ c.from-size.ensures) c.split_at-3.ensures.front_len in (
      omega (arith, c.if-behind-length.true),
      omega (arith, all, most, most_name_within c.in-Some.op, most_sealed_within c.in-Some.op, c.most_sealed.ensures, c.if-length-most_sealed.false, c.if-behind-length.true),
      subst (λ (n : ℕ). NeedsMore c.args.bytes.now (n - length c.split_at-3.result.1.now)) (sym number)
          (short_sealed c.args.bytes.now c.split_at.result.0.now c.split_at.result.1.now c.split_at.ensures.by_index.0 c.split_at.ensures.front_len
          c.in-Some.op c.in-Some.ensures.found c.split_at-2.result.0.now c.split_at-2.result.1.now c.split_at-3.result.0.now c.split_at-3.result.1.now
          c.split_at-2.ensures.by_index.0 c.split_at-3.ensures.by_index.0 (c.split_at-2.ensures.front_len ∙ c.from-size.ensures) c.split_at-3.ensures.front_len
          (omega (arith, number, c.if-behind-length.true))),
    )

pub returns : goal.returns
returns c =
    let told = c.split_at-3.result.0.now in
    let number : c.from-length.result ≡ from_be_bytes w16 told =
    c.from-length.ensures ∙ c.from_be_bytes.ensures ∙ ap (from_be_bytes w16) (two_list told c.split_at-3.ensures.front_len) in
    let near : get_or c.split_at.result.0.now 0 0 ≤ 7 = search rules in
    let least : least_name c.in-Some.op ≤ get_or c.split_at.result.0.now 2 0 = search rules in
    let most : get_or c.split_at.result.0.now 2 0 ≤ most_name c.in-Some.op = search rules in
    subst (λ (k : Call). IsCall k × ((rest : List ℕ) × (c.args.bytes.now ≡ item_bytes k ++ rest))) (sym c.store.ensures)
    (is_whole c.args.bytes.now c.split_at.result.0.now c.split_at.result.1.now c.split_at.ensures.by_index.0 c.split_at.ensures.front_len
    c.in-Some.op c.in-Some.ensures.found c.split_at-2.result.0.now c.split_at-2.result.1.now c.split_at-3.result.0.now c.split_at-3.result.1.now
    c.split_at-2.ensures.by_index.0 c.split_at-3.ensures.by_index.0 (c.split_at-2.ensures.front_len ∙ c.from-size.ensures) c.split_at-3.ensures.front_len
    (get_or c.split_at.result.0.now 0 0) (take c.from-length.result c.split_at-3.result.1.now) refl near least most
    (omega (arith, number, c.most_sealed.ensures, c.if-length-most_sealed.false))
    (told_range c.args.bytes.now c.split_at.result.1.now c.split_at-2.result.1.now told c.from-size.result (λ i. omega (arith, c.type_inv.bytes i))
    c.split_at.ensures.back c.split_at-2.ensures.back c.split_at-3.ensures.front)
    (omega (arith, number, c.if-behind-length.false))
    (ap (λ (n : ℕ). take n c.split_at-3.result.1.now) number))
