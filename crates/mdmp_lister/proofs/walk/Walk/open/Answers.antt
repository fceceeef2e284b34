use Rattle.std.proofs.Common.{◌≡◌, ◌+◌, ◌-◌, ◌*◌, ◌∙◌, ℕ, List, None, Option, Err, ap, arith, refl, rules, subst, sym}
use Rattle.mdmp_lister.specs.declared.choice.Choice.{Choice}
use Rattle.mdmp_lister.specs.declared.fault.OpenFault.{OpenFault}
use Rattle.mdmp_lister.specs.declared.fault.OpenFault.TheVariants.{Memory}
use Rattle.mdmp_lister.specs.declared.limits.Limits.{Limits}
use Rattle.mdmp_lister.specs.Calls.{AskedRoom, TellsListsLacking}
use Rattle.mdmp_lister.specs.Holding.{fills_of}
use Rattle.mdmp_lister.specs.Meter.{Books}
use Rattle.mdmp_wire.specs.declared.header.Header.{Header}
use Rattle.mdmp_lister.specs.NextFetch.{TriesDirectory}
use Rattle.mdmp_lister.specs.Opening.{IsHeaderRefusal, refusal_of_fetch}
use Rattle.mdmp_lister.proofs.Budgets.{header-kept, opening-begun, opening-over, opening-then, over_fetched}
use Rattle.mdmp_lister.proofs.Fetches.{IsCaused_later}
use Rattle.mdmp_lister.proofs.Directory.{directory_fills}
use Rattle.mdmp_lister.proofs.Metering.{Books-then, Books-within}
use Rattle.mdmp_lister.proofs.Openings.{directory-next, header-next, header_read}
use Rattle.mdmp_lister.proofs.Refusals.{IsRefused-directory, IsRefused-header, IsRefused-limit, IsRefused-memory, directory_room, header-long}
use Rattle.mdmp_lister.proofs.walk.Walk.open.Goals as goal

-- the fault of a header is no want of memory
header_lacking : {A : Type 0} (may_lack : A → Limits → AskedRoom → Type 0) (alloc : A) (limits : Limits) (choice : Choice) (content : Option (List ℕ)) (size : ℕ) (fault : OpenFault)
    → IsHeaderRefusal size fault → TellsListsLacking may_lack alloc limits choice content fault
header_lacking may_lack alloc limits choice content size Memory of = absurd of
header_lacking may_lack alloc limits choice content size _ of = tt

pub returns-in-Err-clause-refused : goal.returns-in-Err-clause-refused
returns-in-Err-clause-refused g c =
    let of = c.in-Err.ensures in
    rw c.refused.ensures.made (rw c.new-meter.ensures at (IsRefused-header _ c.read_header.new.meter c.in-Err.fault of.fits of.finds of.books of.caused))

pub returns-in-Err-clause-kept : goal.returns-in-Err-clause-kept
returns-in-Err-clause-kept g c =
    let limits = c.args.limits in
    rw c.refused.ensures.made (header-kept limits c.args.source c.new-meter.result c.read_header.new.meter c.new-meter.ensures c.in-Err.ensures.books c.refused.ensures.booked c.refused.ensures.kept c.in-Err.fault c.in-Err.ensures.over)

pub returns-in-Err-ask_lists-clause-kept : goal.returns-in-Err-ask_lists-clause-kept
returns-in-Err-ask_lists-clause-kept g c =
    let limits = c.args.limits in
    let refused = c.refused-in-Err-ask_lists.ensures in
    rw refused.made (header-kept limits c.args.source c.new-meter.result c.read_header.new.meter c.new-meter.ensures c.in-Ok.ensures.books refused.booked refused.kept _ tt)

pub returns-in-Err-ask_lists-clause-refused : goal.returns-in-Err-ask_lists-clause-refused
returns-in-Err-ask_lists-clause-refused g c =
    let of = c.in-Ok.ensures in
    rw c.refused-in-Err-ask_lists.ensures.made (rw c.new-meter.ensures at (IsRefused-memory _ c.read_header.new.meter c.in-Ok.header of.fits of.finds of.books of.caused))

pub returns-in-Err-read_directory-clause-refused : goal.returns-in-Err-read_directory-clause-refused
returns-in-Err-read_directory-clause-refused g c =
    let of = c.in-Ok.ensures in
    let read = c.in-Err-read_directory in
    let n = c.in-Ok.header.number_of_streams in
    let window = c.in-Ok-ask_lists.lists.window in
    let few = directory_fills n window.room (rw c.in-Ok-ask_lists.ensures.window c.args.limits.window_least) in
    let books = Books-within _ n (12 * n) (12 * n) c.read_header.new.meter c.read_directory.new.meter few (omega arith) read.ensures.reads.books in
    rw (c.refused-in-Err-read_directory.ensures.made, c.from.ensures)
    (rw c.new-meter.ensures at (IsRefused-directory _ c.read_header.new.meter c.read_directory.new.meter c.in-Ok.header read.fault of.fits of.finds of.books of.caused books read.ensures.reads.caused))

pub returns-in-Err-read_directory-clause-kept : goal.returns-in-Err-read_directory-clause-kept
returns-in-Err-read_directory-clause-kept g c =
    let of = c.in-Ok.ensures in
    let read = c.in-Err-read_directory in
    let limits = c.args.limits in
    let n = c.in-Ok.header.number_of_streams in
    let window = c.in-Ok-ask_lists.lists.window in
    let began = opening-then limits c.args.source 0 1 32 c.new-meter.result c.read_header.new.meter (opening-begun limits c.args.source c.new-meter.result c.new-meter.ensures) of.books in
    let is = opening-then limits c.args.source (0 + 32) _ (12 * n) c.read_header.new.meter c.read_directory.new.meter began read.ensures.reads.books in
    let finds = rw c.new-meter.ensures at of.finds in
    let room : window.room ≡ limits.window = search rules in
    rw (c.refused-in-Err-read_directory.ensures.made, c.from.ensures)
    (opening-over limits c.args.source (0 + 32 + 12 * n) window.room n c.read_directory.new.meter is c.refused-in-Err-read_directory.ensures.booked c.refused-in-Err-read_directory.ensures.kept (omega (arith, room)) (omega arith)
    (rw c.new-meter.ensures at (directory_room c.in-Ok.header.stream_directory_rva n c.new-meter.result.source.size of.fits.inside))
    (λ file known. let same = ap (λ (h : Header). h.number_of_streams) (finds file known).1 in omega (arith, same)) (refusal_of_fetch read.fault) (over_fetched window.room read.fault c.read_directory.new.meter read.ensures.reads.refused))

pub returns-in-Err-clause-next : goal.returns-in-Err-clause-next
returns-in-Err-clause-next g c =
    let of = c.in-Err.ensures in
    rw c.refused.ensures.made (header-next c.args.limits c.args.source c.new-meter.result c.read_header.new.meter c.new-meter.ensures of.books c.refused.ensures.booked c.refused.ensures.kept c.in-Err.fault of.over of.tries)

pub returns-in-Err-read_directory-clause-next : goal.returns-in-Err-read_directory-clause-next
returns-in-Err-read_directory-clause-next g c =
    let of = c.in-Ok.ensures in
    let read = c.in-Err-read_directory in
    let limits = c.args.limits in
    let h = c.in-Ok.header in
    let n = h.number_of_streams in
    let window = c.in-Ok-ask_lists.lists.window in
    let began = opening-then limits c.args.source 0 1 32 c.new-meter.result c.read_header.new.meter (opening-begun limits c.args.source c.new-meter.result c.new-meter.ensures) of.books in
    let is = opening-then limits c.args.source (0 + 32) _ (12 * n) c.read_header.new.meter c.read_directory.new.meter began read.ensures.reads.books in
    let room : window.room ≡ limits.window = search rules in
    let first : c.read_header.new.meter.fetched ≡ 32 = rw c.new-meter.ensures at of.tries in
    let tried = subst (λ (k : ℕ). TriesDirectory k h (Err read.fault) c.read_header.new.meter c.read_directory.new.meter) room read.ensures.tries in
    let header = rw c.new-meter.ensures at (header_read h c.new-meter.result.source c.read_header.new.meter.source of.fits of.finds) in
    rw (c.refused-in-Err-read_directory.ensures.made, c.from.ensures)
    (directory-next limits c.args.source (0 + 32 + 12 * n) window.room c.read_header.new.meter c.read_directory.new.meter h header (search rules) first is c.refused-in-Err-read_directory.ensures.booked
    c.refused-in-Err-read_directory.ensures.kept read.fault read.ensures.reads.refused tried)

pub returns-clause-new : goal.returns-clause-new
returns-clause-new g c =
    let of = c.in-Ok.ensures in
    let h = c.in-Ok.header in
    let n = h.number_of_streams in
    let began = c.new-meter.ensures in
    let read = c.in_default.ensures in
    let window = c.in-Ok-ask_lists.lists.window in
    let few = directory_fills n window.room (rw c.in-Ok-ask_lists.ensures.window c.args.limits.window_least) in
    let all : Books (1 + fills_of (12 * n) (window.room - 11)) (32 + 12 * n) c.new-meter.result c.read_directory.new.meter =
    Books-then 1 _ _ 32 (12 * n) (32 + 12 * n) c.new-meter.result c.read_header.new.meter c.read_directory.new.meter (omega arith) (omega arith) of.books read.reads.books in
    let books = rw began at all in
    let steady = rw began at (IsCaused_later None 32 c.new-meter.result.source c.read_header.new.meter.source c.read_directory.new.meter.source of.books.fetches of.caused read.reads.caused).once in
    let finds = rw began at of.finds in
    record {
      spends = record {
        fetches = books.fetches;
        calls = omega (arith, few, books.source_calls);
        steady = steady;
        asked = omega (arith, books.asked);
        fetched =
            let first : c.read_header.new.meter.fetched ≡ 32 = rw began at of.tries in
            omega (arith, first, read.tries);
        called = rw read.kept (omega (arith, books.most_calls));
        names = books.same_names;
        aside = books.same_aside;
        start = books.same_start;
      };
      reads = record {
        long = rw began at (header-long h c.new-meter.result.source c.read_header.new.meter.source of.fits);
        checked = of.fits.checked;
        placed = rw began at of.fits.inside;
        inside = rw began at (directory_room h.stream_directory_rva n c.new-meter.result.source.size of.fits.inside);
        entries = read.count;
        room = search rules;
        opens = λ file known. (finds file known).0;
      };
      choice_is = refl;
      budget = books.same_budget;
      window = search rules;
      name = search rules;
      unnamed = search rules;
      next = refl;
      stage = refl;
      memory = search rules;
      current_is = refl;
      sound = record {
        sized = rw (all.fetches.same_content, all.fetches.same_size) of.fits.sized;
        window = search rules;
        small = search rules;
        few = search rules;
        whole = read.count;
        listed = record { value = search rules; small = search rules };
        placed = omega arith;
        staged = tt;
        holding = tt;
        headed = λ file known. tt;
        ended = λ end. cc;
        directory = λ file known. let was = sym all.fetches.same_content ∙ known in read.reads.of_file file (sym read.reads.books.fetches.same_content ∙ known) (of.finds file was).1;
        header_is = λ file known. (of.finds file (sym all.fetches.same_content ∙ known)).1;
        unfailed = λ file good. tt;
        refused = tt;
        opened =
            let first : c.read_header.new.meter.fetched ≡ 32 = rw began at of.tries in
            omega (arith, first, read.tries, read.count);
      };
    }

pub returns-in-Err-ask_lists-clause-lacks : goal.returns-in-Err-ask_lists-clause-lacks
returns-in-Err-ask_lists-clause-lacks g c =
    let of = c.in-Ok.ensures in
    let n = c.in-Ok.header.number_of_streams in
    let finds = rw c.new-meter.ensures at of.finds in
    rw c.refused-in-Err-ask_lists.ensures.made (
      n,
      record {
        allowed = search rules;
        of_file = λ file known. ap (λ (h : Header). h.number_of_streams) (finds file known).1;
        refused = search rules;
      },
    )

pub returns-in-Err-clause-lacks : goal.returns-in-Err-clause-lacks
returns-in-Err-clause-lacks g c =
    rw c.refused.ensures.made
    (header_lacking g.A.AskedAllocator.may_lack c.args.alloc c.args.limits c.args.choice c.args.source.store.content _ c.in-Err.fault c.in-Err.ensures.fits.refusal)

pub returns-then-not-holds-clause-refused : goal.returns-then-not-holds-clause-refused
returns-then-not-holds-clause-refused g c =
    let of = c.in-Ok.ensures in
    rw c.refused-then-not-holds.ensures.made (rw c.new-meter.ensures at (IsRefused-limit _ c.read_header.new.meter c.held-held.result c.in-Ok.header of.fits of.finds of.books of.caused))
