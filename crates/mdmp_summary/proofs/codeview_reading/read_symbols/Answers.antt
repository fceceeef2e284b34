use Rattle.std.proofs.Common.{rules, ◌≡◌, ◌∙◌, ◌-◌, ◌++◌, Ok, Some, ap, arith, drop, length, min, refl, replicate, subst, take}
use Rattle.std.proofs.lemmas.List.{drop-replicate}
use Rattle.mdmp_source.specs.Extent.{extent_of}
use Rattle.mdmp_source.specs.declared.location.Extent.{Extent}
use Rattle.mdmp_source.specs.declared.location.Extent.TheVariants.{Inside}
use Rattle.mdmp_lister.specs.CodeView.{AreFetched, fetched_behind}
use Rattle.mdmp_lister.proofs.CodeViews.{front-past}
use Rattle.mdmp_summary.specs.Symbols.{TellsSymbols}
use Rattle.mdmp_summary.specs.declared.codeview_reading.SymbolsRead.{SymbolsRead}
use Rattle.mdmp_summary.proofs.codeview_reading.read_symbols.Goals as goal

pub returns-in_ok-rest-in-Inside-clause-gives : goal.returns-in_ok-rest-in-Inside-clause-gives
returns-in_ok-rest-in-Inside-clause-gives g c =
    let at = c.args.at in
    let room = length c.args.buffer.now in
    let front = c.read_part.new.out in
    let past = drop c.min-fetched.result (replicate 24 0) in
    let count : c.min-fetched.result ≡ min at.size 24 = omega (arith, c.min-fetched.ensures) in
    let long : length front ≡ min at.size 24 = search rules in
    let read : SymbolsRead = record { head = front ++ past; rest = c.in_ok-rest-in-Inside.rest; size = at.size } in
    let fetched : AreFetched at room read.head read.rest read.size = record {
      size_is = refl;
      zeros =
          let left : 24 - c.min-fetched.result ≡ 24 - at.size = omega (arith, count) in
          front-past front past (min at.size 24) long ∙ drop-replicate c.min-fetched.result 24 0 ∙ ap (λ n. replicate n 0) left;
      rest_is = subst (λ n. c.in_ok-rest-in-Inside.rest ≡ fetched_behind (take n (front ++ past)) at.size room) count c.in_ok-rest-in-Inside.ensures.count;
    } in
    let inside : Inside ≡ extent_of at c.args.walker.now.list.source.size = subst (λ n. Inside ≡ extent_of at n) c.size.ensures.value c.in-Inside.ensures in
    subst (λ (e : Extent). TellsSymbols e at room (Ok (Some read))) inside fetched
