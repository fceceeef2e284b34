use Rattle.std.proofs.Common.{◌≡◌, ◌+◌, ◌-◌, ◌∙◌, None, arith, length, min, rules}
use Rattle.mdmp_lister.proofs.CodeViews.{BooksAside-then, codeview-fetched}
use Rattle.mdmp_lister.proofs.Fetches.{IsCaused_later}
use Rattle.mdmp_lister.proofs.codeview.fetch_codeview.Goals as goal

pub returns-clause-reads : goal.returns-clause-reads
returns-clause-reads g c =
    let first = c.in_ok-fetch_aside.ensures.reads in
    let then = c.in_ok-fetch_aside-2.ensures.reads in
    let head = c.fetch_aside.new.out in
    let rest = c.fetch_aside-2.new.self in
    let count = c.min-count.result in
    let at = c.from-at.ensures in
    let size : length head ≡ min c.args.location.size 24 = search rules in
    let fits : count ≡ min (c.args.location.size - 24) rest.limit = search rules in
    record {
      of_file = λ file known. codeview-fetched file head rest.items c.args.location rest.limit count
          (rw at at (first.of_file file known)) size (rw at at (then.of_file file (first.books.fetches.same_content ∙ known))) fits;
      books = BooksAside-then (length head) count (min c.args.location.size (24 + rest.limit)) c.args.meter.now c.fetch_aside.new.self c.fetch_aside-2.new.meter (omega (arith, size, fits)) first.books then.books;
      caused = IsCaused_later None (length head) c.args.meter.now.source c.fetch_aside.new.self.source c.fetch_aside-2.new.meter.source first.books.fetches first.caused then.caused;
    }

pub returns-clause-counted : goal.returns-clause-counted
returns-clause-counted g c =
    let first = c.in_ok-fetch_aside.ensures.counted in
    let then = c.in_ok-fetch_aside-2.ensures.counted in
    let size : length c.fetch_aside.new.out ≡ min c.args.location.size 24 = search rules in
    omega (arith, first, then, size)
