use Rattle.std.proofs.Common.{◌≡◌, ◌+◌, ◌∙◌, Err, ap, length, min, refl, rules, subst, sym}
use Rattle.std.proofs.lemmas.List.{length-take-le}
use Rattle.mdmp_source.specs.Count.{raised}
use Rattle.mdmp_lister.specs.CodeView.{codeview_fetches}
use Rattle.mdmp_lister.specs.Meter.{BooksAside}
use Rattle.mdmp_lister.proofs.CodeViews.{lent_fetched, lent_head, lent_told}
use Rattle.mdmp_lister.proofs.Asides.{codeview_unread, codeview_left, codeview_mapped, state_aside, viewed}
use Rattle.mdmp_lister.proofs.Fetches.{good_caused}
use Rattle.mdmp_lister.proofs.lister.Lister.codeview.Goals as goal

pub returns-in_err-read : goal.returns-in_err-read
returns-in_err-read g c =
    let w = c.self.inside.walk in
    let n = c.fetch_codeview.new.self in
    let e = c.in_err-read.ensures in
    let f = c.in_err-read.field-0.0 in
    let books = e.read.reads.books in
    let is : c.from_residual.result ≡ Err f = search rules in
    rw (← c.self.view_is) (rw is (
      (
        refl,
        λ _. tt,
        record {
          aside = record {
            same = state_aside (viewed c.self.view_is) _ (rw e.same refl) e.room (rw (e.same, e.room) refl) (codeview_left c.args.location w n _ e) (codeview_unread c.args.location w n _ e);
            aside = books.spends;
            fetches = books.fetches;
            source_calls = books.source_calls;
            told = e.read.reads.caused.told;
            good = λ file good. good_caused {T = Unit {0}} w.meter.source n.meter.source (Err f) file e.read.reads.caused good;
          };
          counted = tt;
        },
      ),
      record {
        value = λ file known. tt;
        head = λ file known. tt;
        fetched = tt;
        reads = tt;
        good = λ file good. good_caused {T = Unit {0}} w.meter.source n.meter.source (Err f) file e.read.reads.caused good;
      },
    ))

pub returns : goal.returns
returns g c =
    let w = c.self.inside.walk in
    let n = c.fetch_codeview.new.self in
    let e = c.in_ok-read.ensures in
    let read = c.in_ok-read.read in
    let bytes = c.codeview.result in
    let of = c.codeview.ensures in
    let long : length bytes.rest.now ≡ read.rest = ap length of.rest ∙ length-take-le read.rest n.name.items e.read.lent in
    let books = subst (λ count. BooksAside (codeview_fetches count) (min c.args.location.size 24 + count) w.meter n.meter) (sym long) e.read.fetches.books in
    rw (← c.self.view_is) (
      (
        refl,
        λ _. tt,
        record {
          aside = record {
            same = state_aside (viewed c.self.view_is) _ (rw e.same refl) e.room (rw (e.same, e.room) refl) (codeview_left c.args.location w n _ e) (codeview_unread c.args.location w n _ e);
            aside = books.spends;
            fetches = books.fetches;
            source_calls = books.source_calls;
            told = tt;
            good = λ file good. refl;
          };
          counted = subst (λ count. n.meter.aside.bytes ≡ raised w.meter.aside.bytes (min c.args.location.size 24 + count)) (sym long) e.read.fetches.counted;
        },
      ),
      record {
        value = λ file known. lent_told bytes read of.head of.size n.name.items of.rest ∙ (e.read.reads.of_file file known).told;
        head = λ file known. lent_head bytes read of.head of.size ∙ (e.read.reads.of_file file known).head_is;
        fetched = lent_fetched bytes read of.head of.size c.args.location w.name.limit long e.read.fetches.fetched;
        reads = tt;
        good = λ file good. refl;
      },
    )

pub invariant_of-self-2 : goal.invariant_of-self-2
invariant_of-self-2 g c = codeview_mapped c.args.location c.self.inside.walk c.fetch_codeview.new.self c.fetch_codeview.result c.self.inside.map c.fetch_codeview.ensures c.self.invariant
