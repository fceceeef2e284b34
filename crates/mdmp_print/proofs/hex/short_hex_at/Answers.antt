use Rattle.std.proofs.Common.{◌∙◌, ◌∷◌, ◌+◌, ◌-◌, ◌/◌, ◌<◌, ◌≡◌, ◌^◌, ℕ, List, [], ap, ap₂, arith, drop, length, length-drop, length-set, length-take, replicate, take, ◌≤◌, refl, slice_set, subst, suc, sym, take_all}
use Rattle.std.specs.Fmt.{digits, digits_onto}
use Rattle.std.proofs.lemmas.Grind.{drop-set_at}
use Rattle.std.proofs.lemmas.List.{drop_all, length-replicate}
use Rattle.mdmp_print.proofs.BufferLemmas.{IsPutBehind-as}
use Rattle.mdmp_print.proofs.Sixteens.{less-places, more-places, onto-last, onto-more}
use Rattle.mdmp_print.proofs.hex.short_hex_at.Goals as goal

pub loop-left-init : goal.loop-left-init
unfolding digits
loop-left-init g c =
    let n = g.row.N in
    let last : n - 1 + 1 ≡ n = omega (arith, c.requires.some) in
    let long : length (replicate {A = ℕ} n 0) ≡ n = length-replicate n 0 in
    let all : n - 1 + suc (64 - n) ≡ 64 = omega (arith, c.requires.some, c.requires.most) in
    let within : length (replicate {A = ℕ} n 0) ≤ n - 1 + 1 = omega (arith, long, last) in
    let none : drop (n - 1 + 1) (replicate {A = ℕ} n 0) ≡ [] = drop_all (n - 1 + 1) (replicate {A = ℕ} n 0) within in
    record {
      long = long;
      inside = omega (arith, c.requires.some);
      room = subst (λ (k : ℕ). c.args.number < 16 ^ k) (sym last) c.requires.few;
      written = ap₂ (λ (k : ℕ) (behind : List ℕ). digits_onto k 16 c.args.upper c.args.number behind) all none;
    }

pub loop-left-preserved : goal.loop-left-preserved
loop-left-preserved g c =
    let l = c.loop-left in
    let some = more-places l.first l.left l.invariant.room c.loop-left-test.true in
    let digit = drop-set_at l.places l.first (l.first - 1 + 1) c.hex_digit.result (omega (arith, some)) (omega (arith, l.invariant.inside, l.invariant.long)) in
    record {
      long = length-set l.places l.first c.hex_digit.result ∙ l.invariant.long;
      inside = omega (arith, l.invariant.inside);
      room = less-places l.first l.left some l.invariant.room;
      written =
          ap (digits_onto (l.first - 1 + suc (64 - g.row.N)) 16 c.args.upper (l.left / 16)) (digit ∙ ap (λ (d : ℕ). d ∷ drop (l.first + 1) l.places) c.hex_digit.ensures)
          ∙ sym (onto-more (64 - g.row.N) c.args.upper l.first l.left (drop (l.first + 1) l.places) some c.loop-left-test.true)
          ∙ l.invariant.written;
    }

pub returns : goal.returns
returns g c =
    let n = g.row.N in
    let l = c.loop-left in
    let few : l.left < 16 = omega (arith, c.loop-left-test.false) in
    let text =
    drop-set_at l.places l.first l.first c.hex_digit-2.result refl (omega (arith, l.invariant.inside, l.invariant.long))
    ∙ ap (λ (d : ℕ). d ∷ drop (l.first + 1) l.places) c.hex_digit-2.ensures
    ∙ sym (onto-last (64 - n) c.args.upper l.first l.left (drop (l.first + 1) l.places) few)
    ∙ l.invariant.written in
    let put = slice_set l.places l.first c.hex_digit-2.result in
    let long = length-set l.places l.first c.hex_digit-2.result ∙ l.invariant.long in
    let left = length put - l.first in
    let all = take_all left (drop l.first put) (omega (arith, length-drop l.first put)) in
    let few : length (take left (drop l.first put)) ≤ n = omega (arith, length-take left (drop l.first put), long) in
    IsPutBehind-as (all ∙ text) few c.slice_at.ensures
