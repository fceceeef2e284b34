use Rattle.std.proofs.Common.{◌≡◌, ◌≤◌, ◌<◌, ◌+◌, ◌∙◌, ℕ, None, Err, true, arith, refl, rules, sym, get_or, subst, length}
use Rattle.mdmp_source.specs.Count.{raised}
use Rattle.mdmp_wire.specs.declared.entry.Entry.{Entry}
use Rattle.mdmp_lister.specs.StreamHead.{ahead_of}
use Rattle.mdmp_lister.specs.Format.Listing.{entry_count, is_chosen}
use Rattle.mdmp_lister.specs.Meter.{Books, TriesFetch, store_fault_of}
use Rattle.mdmp_lister.proofs.Entries.{ranges-chosen, ranges-other, ranges-end}
use Rattle.mdmp_lister.proofs.Fetches.{IsCaused_none, IsCaused_later}
use Rattle.mdmp_lister.proofs.Heads.{heads-all, heads-chosen, heads-chosen_most, heads-exact, heads-more, heads-most, heads-passed, heads-refused}
use Rattle.mdmp_lister.proofs.Metering.{Books_none, Books-then, Books-within, counted_then}
use Rattle.mdmp_lister.proofs.counting.count_ranges.Goals as goal

abbrev no_entry : Entry
no_entry = record { stream_type = 0; location = record { size = 0; rva = 0 } }

pub loop-entry-init : goal.loop-entry-init
loop-entry-init g c = record {
  books = Books_none _ _ c.args.meter.now;
  caused = IsCaused_none c.args.meter.now.source;
  counted = search rules;
  spent = omega arith;
  bound = omega arith;
}

pub loop-entry-preserved-then-not-has : goal.loop-entry-preserved-then-not-has
loop-entry-preserved-then-not-has g c =
    let i = c.loop-entry.invariant in
    let at = c.loop-entry.entry-index in
    let es = c.args.entries.now in
    let z = c.args.meter.now.source.size in
    record {
      books = Books-within at (at + 1) _ _ c.args.meter.now c.loop-entry.meter (omega arith) (heads-more c.args.choice.now z at es no_entry c.loop-entry-test.true) i.books;
      caused = i.caused;
      counted = λ file known.
          let dir = c.requires.directory file known in
          let lt : at < entry_count file = omega (arith, dir.count, c.loop-entry-test.true) in
          let same = dir.each at no_entry c.loop-entry-test.true in
          let step = ranges-other file c.args.choice.now at (get_or es at no_entry) lt same (sym c.if-not-has.true ∙ c.has.ensures) in
          omega (arith, step, i.counted file known);
      spent = rw (heads-passed c.args.choice.now z at es no_entry c.loop-entry-test.true (sym (sym c.if-not-has.true ∙ c.has.ensures))) i.spent;
      bound = omega arith;
    }

pub loop-entry-preserved : goal.loop-entry-preserved
loop-entry-preserved g c =
    let i = c.loop-entry.invariant in
    let at = c.loop-entry.entry-index in
    let es = c.args.entries.now in
    let z = c.args.meter.now.source.size in
    let e : Entry = get_or es at no_entry in
    let has : is_chosen c.args.choice.now e.stream_type ≡ true = sym (sym c.if-not-has.false ∙ c.has.ensures) in
    let read = c.in_ok-ranges_of_entry.ensures.reads in
    let head = subst (λ (n : ℕ). Books 1 (ahead_of n e) c.loop-entry.meter c.ranges_of_entry.new.meter) i.books.fetches.same_size read.books in
    record {
      books = Books-then at 1 (at + 1) _ (ahead_of z e) _ c.args.meter.now c.loop-entry.meter c.ranges_of_entry.new.meter (omega arith) (heads-chosen c.args.choice.now z at es no_entry c.loop-entry-test.true has) i.books head;
      caused = IsCaused_later None _ c.args.meter.now.source c.loop-entry.meter.source c.ranges_of_entry.new.meter.source i.books.fetches i.caused read.caused;
      counted = λ file known.
          let dir = c.requires.directory file known in
          let lt : at < entry_count file = omega (arith, dir.count, c.loop-entry-test.true) in
          let same = dir.each at no_entry c.loop-entry-test.true in
          let step = ranges-chosen file c.args.choice.now at e lt same (sym c.if-not-has.false ∙ c.has.ensures) in
          let count = read.of_file file (i.books.fetches.same_content ∙ known) in
          omega (arith, step, count, c.from.ensures, i.counted file known);
      spent =
          let made = subst (λ (n : ℕ). c.ranges_of_entry.new.meter.fetched ≡ raised c.loop-entry.meter.fetched (ahead_of n e)) i.books.fetches.same_size c.in_ok-ranges_of_entry.ensures.tries in
          counted_then c.args.meter.now.fetched c.loop-entry.meter.fetched c.ranges_of_entry.new.meter.fetched _ (ahead_of z e) _ i.spent made (sym (heads-exact c.args.choice.now z at es no_entry c.loop-entry-test.true has));
      bound = omega arith;
    }

pub returns-in_err-ranges_of_entry-clause-reads : goal.returns-in_err-ranges_of_entry-clause-reads
returns-in_err-ranges_of_entry-clause-reads g c =
    let i = c.loop-entry.invariant in
    let at = c.loop-entry.entry-index in
    let es = c.args.entries.now in
    let z = c.args.meter.now.source.size in
    let e : Entry = get_or es at no_entry in
    let has : is_chosen c.args.choice.now e.stream_type ≡ true = sym (sym c.if-not-has.false ∙ c.has.ensures) in
    let read = c.in_err-ranges_of_entry.ensures.reads in
    let head = subst (λ (n : ℕ). Books 1 (ahead_of n e) c.loop-entry.meter c.ranges_of_entry.new.meter) i.books.fetches.same_size read.books in
    let fault = c.in_err-ranges_of_entry.field-0.0 in
    let is : c.from_residual.result ≡ Err fault = search rules in
    rw is (record {
      of_file = λ file known. tt;
      books = Books-then at 1 (length es) _ (ahead_of z e) _ c.args.meter.now c.loop-entry.meter c.ranges_of_entry.new.meter (omega (arith, c.loop-entry-test.true)) (heads-chosen_most c.args.choice.now z at es no_entry c.loop-entry-test.true has) i.books head;
      caused = IsCaused_later (store_fault_of {T = ℕ} (Err fault)) _ c.args.meter.now.source c.loop-entry.meter.source c.ranges_of_entry.new.meter.source i.books.fetches i.caused read.caused;
      refused = read.refused;
    })

pub returns-clause-reads : goal.returns-clause-reads
returns-clause-reads g c =
    let i = c.loop-entry.invariant in
    let at = c.loop-entry.entry-index in
    let es = c.args.entries.now in
    record {
      of_file = λ file known.
          let dir = c.requires.directory file known in
          let over : entry_count file ≤ at = omega (arith, dir.count, c.loop-entry-test.false) in
          omega (arith, i.counted file known, ranges-end file c.args.choice.now at over);
      books = Books-within at (length es) _ _ c.args.meter.now c.loop-entry.meter (omega arith) (heads-most c.args.choice.now c.args.meter.now.source.size at es) i.books;
      caused = i.caused;
      refused = tt;
    }

pub returns-in_err-ranges_of_entry-clause-tries : goal.returns-in_err-ranges_of_entry-clause-tries
returns-in_err-ranges_of_entry-clause-tries g c =
    let i = c.loop-entry.invariant in
    let at = c.loop-entry.entry-index in
    let es = c.args.entries.now in
    let z = c.args.meter.now.source.size in
    let e : Entry = get_or es at no_entry in
    let has : is_chosen c.args.choice.now e.stream_type ≡ true = sym (sym c.if-not-has.false ∙ c.has.ensures) in
    let fault = c.in_err-ranges_of_entry.field-0.0 in
    let tried = subst (λ (n : ℕ). TriesFetch {T = ℕ} e.location.rva (ahead_of n e) (Err fault) c.loop-entry.meter c.ranges_of_entry.new.meter) i.books.fetches.same_size c.in_err-ranges_of_entry.ensures.tries in
    let is : c.from_residual.result ≡ Err fault = search rules in
    rw is (heads-refused c.args.choice.now z at es no_entry c.loop-entry-test.true e fault c.args.meter.now c.loop-entry.meter c.ranges_of_entry.new.meter refl has i.spent tried)

pub returns-clause-tries : goal.returns-clause-tries
returns-clause-tries g c =
    let i = c.loop-entry.invariant in
    let all = heads-all c.args.choice.now c.args.meter.now.source.size c.loop-entry.entry-index c.args.entries.now (omega (arith, c.loop-entry-test.false)) in
    rw (← all) i.spent
