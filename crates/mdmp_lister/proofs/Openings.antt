-- Which fetch an opening comes to where the budget does not allow it.
use Rattle.std.proofs.Common.{◌≡◌, ◌≤◌, ◌<◌, ◌+◌, ◌*◌, ◌^◌, ◌∙◌, ap, ℕ, List, Option, Some, None, Ok, Err, arith, refl, subst, sym, take, vec_len}
use Rattle.mdmp_source.specs.Source.{SourceState}
use Rattle.mdmp_wire.specs.declared.header.Header.{Header}
use Rattle.mdmp_lister.specs.declared.choice.Choice.{Choice}
use Rattle.mdmp_lister.specs.declared.fault.FetchFault.{FetchFault}
use Rattle.mdmp_lister.specs.declared.fault.FetchFault.TheVariants as fetch
use Rattle.mdmp_lister.specs.declared.fault.OpenFault.{OpenFault}
use Rattle.mdmp_lister.specs.declared.fault.OpenFault.TheVariants as opening
use Rattle.mdmp_lister.specs.declared.limits.Limits.{Limits}
use Rattle.mdmp_lister.specs.declared.meter.Amount.{Amount}
use Rattle.mdmp_lister.specs.declared.walk.Walk.{Walk}
use Rattle.mdmp_lister.specs.Meter.{Books, IsBooked, IsFetchOver, IsRefusedFetch, KeepsTo, MeterState, counts_of}
use Rattle.mdmp_lister.specs.NextFetch.{ComesToFetch, IsDirectoryFetch, IsHeadFetch, IsHeaderRead, IsOpeningFetch, TellsNextOpening, TriesDirectory}
use Rattle.mdmp_lister.specs.Opening.{Finds, FitsHeader, IsOpeningOver, TriesHeader, refusal_of_fetch}
use Rattle.mdmp_lister.specs.StreamHead.{heads_ahead}
use Rattle.mdmp_lister.specs.Walk.{CountsRanges, IsNewWalk}
use Rattle.mdmp_lister.proofs.Budgets.{IsOpening, opening-begun, opening-then}
use Rattle.mdmp_lister.proofs.Heads.{heads-most, heads_few}

pub header_read : (h : Header) (old new : SourceState) → FitsHeader old (Ok h) new → ((file : List ℕ) → old.store.content ≡ Some file → Finds file (Ok h)) → IsHeaderRead old h
header_read h old new fits finds = record { checked = fits.checked; inside = fits.inside; of_file = finds }

module _ (limits : Limits) (old : SourceState) where
  -- a fetch that was not made is the one that comes next
  comes_to : (counted : Option Choice) (n most offset size : ℕ) (m : MeterState) → IsOpening limits old n m → IsBooked m.source (counts_of m) → KeepsTo m.budget m.fetched
      → IsRefusedFetch most offset size (counts_of m) m.source.size → IsOpeningFetch counted limits.window old m.fetched offset size → ComesToFetch counted limits old offset size m.source
  comes_to counted n most offset size m is booked kept over next = record {
    fetched = m.fetched;
    spent = omega (arith, booked.bytes, ap (λ (a : Amount). a.bytes) is.start, ap (λ (a : Amount). a.bytes) is.aside);
    kept = rw (← is.budget) kept;
    passes = rw (← is.budget) over.passes;
    next = next;
  }

  -- the header
  pub header-next : (began m : MeterState)
      → began ≡ record { source = old; fetched = 0; calls = 0; names = 0; aside = record { bytes = 0; calls = 0 }; start = record { bytes = old.fetched; calls = old.calls }; budget = limits.budget; asked = 0 }
      → Books 1 32 began m → IsBooked m.source (counts_of m) → KeepsTo m.budget m.fetched → (fault : OpenFault) → IsOpeningOver 32 fault m → TriesHeader (Err fault) began m
      → TellsNextOpening None limits old fault m.source
  header-next began m is books booked kept (opening.Budget offset size) over tried =
      comes_to None (0 + 32) 32 offset size m (opening-then limits old 0 1 32 began m (opening-begun limits old began is) books) booked kept over
      (IsOpeningFetch.of_header (tried.1 ∙ ap (λ (v : MeterState). v.fetched) is) tried.0.0 tried.0.1)
  header-next began m is books booked kept fault over tried = tt

  -- a part of the directory
  pub directory-next : (n most : ℕ) (mid m : MeterState) (h : Header) → IsHeaderRead old h → h.number_of_streams < 2 ^ 64 → mid.fetched ≡ 32 → IsOpening limits old n m → IsBooked m.source (counts_of m)
      → KeepsTo m.budget m.fetched → (fault : FetchFault) → IsFetchOver most fault m → TriesDirectory limits.window h (Err fault) mid m → TellsNextOpening None limits old (refusal_of_fetch fault) m.source
  directory-next n most mid m h read few first is booked kept (fetch.Source fault) over tried = tt
  directory-next n most mid m h read few first is booked kept (fetch.Budget offset size) over tried =
      let next : IsDirectoryFetch limits.window h (32 + tried.0) offset size = tried.1.1 in
      let all : m.fetched ≡ 32 + tried.0 = omega (arith, tried.1.0, first, next.before, next.more, few) in
      comes_to None n most offset size m is booked kept over
      (IsOpeningFetch.of_directory h read (subst (λ k. IsDirectoryFetch limits.window h k offset size) (sym all) next))

  -- where no heads are read it is none of them
  fetch_counted : (counted : Option Choice) (fetched offset size : ℕ) → IsOpeningFetch None limits.window old fetched offset size → IsOpeningFetch counted limits.window old fetched offset size
  fetch_counted counted fetched offset size (IsOpeningFetch.of_header none at len) = IsOpeningFetch.of_header none at len
  fetch_counted counted fetched offset size (IsOpeningFetch.of_directory h read next) = IsOpeningFetch.of_directory h read next
  fetch_counted counted fetched offset size (IsOpeningFetch.of_head h read entries directory choice is next) = cc

  pub next-counted : (counted : Option Choice) (fault : OpenFault) (new : SourceState) → TellsNextOpening None limits old fault new → TellsNextOpening counted limits old fault new
  next-counted counted (opening.Budget offset size) new comes = record {
    fetched = comes.fetched;
    spent = comes.spent;
    kept = comes.kept;
    passes = comes.passes;
    next = fetch_counted counted comes.fetched offset size comes.next;
  }
  next-counted counted fault new comes = tt

-- the head of a memory list
module _ {S A : Type 0} (source : SourceState) (choice : Choice) (limits : Limits) (w n : Walk S A) where
  pub heads-next : (fault : FetchFault) → IsNewWalk source choice limits w → CountsRanges w (Err fault) n → IsBooked n.meter.source (counts_of n.meter) → KeepsTo n.meter.budget n.meter.fetched
      → TellsNextOpening (Some choice) limits source (refusal_of_fetch fault) n.meter.source
  heads-next (fetch.Source fault) new counts booked kept = tt
  heads-next (fetch.Budget offset size) new counts booked kept =
      let ok = w.entries.ok.0 in
      let streams = w.header.number_of_streams in
      let tried = counts.tries in
      let next : IsHeadFetch w.choice w.meter.source.size w.entries.items 0 tried.0 offset size = tried.1.1 in
      let before = heads_ahead w.choice w.meter.source.size (take next.number w.entries.items) in
      let began : IsOpening limits source (32 + 12 * streams) w.meter = record { budget = new.budget; start = new.spends.start; aside = new.spends.aside; size = new.spends.fetches.same_size; asked = new.spends.asked } in
      let is = opening-then limits source (32 + 12 * streams) _ (heads_ahead w.choice w.meter.source.size w.entries.items) w.meter n.meter began counts.books in
      let few = heads_few w.choice w.meter.source.size w.entries.items in
      let all : n.meter.fetched ≡ 32 + 12 * streams + before =
      omega (arith, ok, tried.1.0, next.behind, new.spends.fetched, new.reads.entries, few, heads-most w.choice w.meter.source.size next.number w.entries.items) in
      let there : IsHeadFetch w.choice w.meter.source.size w.entries.items (32 + 12 * streams) n.meter.fetched offset size =
      record { number = next.number; entry = next.entry; is = next.is; chosen = next.chosen; behind = all; offset_is = next.offset_is; size_is = next.size_is } in
      let chosen = subst (λ (c : Choice). IsHeadFetch c w.meter.source.size w.entries.items (32 + 12 * streams) n.meter.fetched offset size) new.choice_is there in
      let sized = subst (λ z. IsHeadFetch choice z w.entries.items (32 + 12 * streams) n.meter.fetched offset size) new.spends.fetches.same_size chosen in
      let read : IsHeaderRead source w.header = record {
        checked = new.reads.checked;
        inside = new.reads.placed;
        of_file = λ file known. (new.reads.opens file known, new.sound.header_is file (new.spends.fetches.same_content ∙ known));
      } in
      comes_to limits source (Some choice) _ 16 offset size n.meter is booked kept counts.refused
      (IsOpeningFetch.of_head w.header read w.entries.items (λ file known. new.sound.directory file (new.spends.fetches.same_content ∙ known)) choice refl sized)

  -- just so many bytes were fetched where all was obtained
  pub opened_just : (count : ℕ) → IsNewWalk source choice limits w → CountsRanges w (Ok count) n
      → n.meter.fetched ≡ 32 + 12 * vec_len n.entries + heads_ahead n.choice n.meter.source.size n.entries.items
  opened_just count new counts =
      let ok = w.entries.ok.0 in
      let room = counts.same.room in
      let few = heads_few w.choice w.meter.source.size w.entries.items in
      rw (room.entries, room.choice, counts.books.fetches.same_size) (omega (arith, ok, counts.tries, new.spends.fetched, new.reads.entries, new.sound.few, few))

  pub opened_new : (count : ℕ) → IsNewWalk source choice limits w → CountsRanges w (Ok count) n
      → 32 + 12 * vec_len n.entries + heads_ahead n.choice n.meter.source.size n.entries.items ≤ n.meter.fetched
  opened_new count new counts = omega (arith, opened_just count new counts)
