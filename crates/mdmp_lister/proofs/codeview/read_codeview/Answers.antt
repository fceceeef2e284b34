use Rattle.std.proofs.Common.{◌≡◌, ◌≤◌, ◌∙◌, ◌-◌, ◌++◌, List, ℕ, ap, arith, drop, length, min, refl, replicate, rules, subst, sym, take}
use Rattle.std.proofs.lemmas.List.{drop-replicate}
use Rattle.mdmp_wire.specs.CodeView.{codeview_in}
use Rattle.mdmp_lister.specs.CodeView.{fetched_behind}
use Rattle.mdmp_lister.proofs.CodeViews.{fetched_within, front-kept, front-past}
use Rattle.mdmp_lister.proofs.codeview.read_codeview.Goals as goal

pub returns-clause-reads : goal.returns-clause-reads
returns-clause-reads g c =
    let read = c.in_ok-rest.ensures in
    let size = c.args.location.size in
    let front = c.fetch_codeview.new.head in
    let fetched : length front ≡ min size 24 = search rules in
    let past = drop c.min-fetched.result (replicate 24 0) in
    let kept : take (min size 24) (front ++ past) ≡ front = front-kept front past (min size 24) fetched in
    record {
      reads = record {
        of_file = λ file known. record {
          head_is = kept ∙ (read.reads.of_file file known).head_is;
          told =
              ap (λ (head : List ℕ). codeview_in head (take c.in_ok-rest.rest c.fetch_codeview.new.rest.items) size) kept
              ∙ (read.reads.of_file file known).told;
        };
        books = read.reads.books;
        caused = read.reads.caused;
      };
      held = subst (λ n. n ≤ c.fetch_codeview.new.rest.limit) (sym read.room) (fetched_within front size c.fetch_codeview.new.rest.limit);
      lent = read.holds;
      fetches = record {
        fetched = record {
          size_is = refl;
          zeros =
              let left : 24 - c.min-fetched.result ≡ 24 - size = omega (arith, c.min-fetched.ensures) in
              front-past front past (min size 24) fetched ∙ drop-replicate c.min-fetched.result 24 0 ∙ ap (λ n. replicate n 0) left;
          rest_is = read.room ∙ ap (λ (head : List ℕ). fetched_behind head size c.fetch_codeview.new.rest.limit) (sym kept);
        };
        books = read.books;
        counted = read.counted;
      };
    }
