use Rattle.std.proofs.Common.{rules, ◌≡◌, ◌∙◌, ◌+◌, ◌++◌, ◌-◌, [], Ok, Err, ap, arith, refl}
use Rattle.mdmp_wire.specs.declared.header.Header.{Header}
use Rattle.mdmp_lister.specs.Format.Listing.{entry_count}
use Rattle.mdmp_lister.proofs.Fetches.{FetchesAtMost-none, FetchesAtMost-within}
use Rattle.mdmp_lister.proofs.Handing.{same_lister-then}
use Rattle.mdmp_lister.proofs.NamesFetched.{names_more, names_none}
use Rattle.mdmp_summary.specs.Checking.{rows_cost}
use Rattle.mdmp_summary.proofs.CheckingOn.{checks_begin, checks_more, fetches_on, names_early, names_end, read_early, read_end, rows_early, rows_end, told_later}
use Rattle.mdmp_summary.proofs.Counting.{skipped_left}
use Rattle.mdmp_summary.proofs.RowsTaken.{handed_then, taken_then}
use Rattle.mdmp_summary.proofs.checking.check_runs.Goals as goal

pub entries-init : goal.entries-init
entries-init g c = record {
  same_sink = refl;
  fresh = c.requires.fresh;
  same = record { header_is = refl; entries = refl; choice = refl; limit = refl; rooms = refl; aside = refl; start = refl; budget = refl };
  going = c.requires.left.stop;
  stands = λ in_chosen. in_chosen;
  rows = [];
  items = [];
  fetches = FetchesAtMost-within 0 _ _ _ (omega arith) (FetchesAtMost-none c.args.lister.now.source);
  unread = omega arith;
  named = names_none 1 c.args.lister.now.counts.fetched;
  taken = refl;
  checks = λ file known. checks_begin file c.args.lister.now.limit c.args.lister.now (c.requires.left.left file known);
}

pub entries-preserved : goal.entries-preserved
entries-preserved g c =
    let so_far = c.entries.invariant in
    let old = c.args.lister.now in
    let now = c.entries.lister in
    let new = c.check_run.new.lister in
    let of = rw c.if-not-more.false at c.in_ok-more.ensures in
    let told = of.rows in
    let leaves = of.leaves in
    let unread = leaves.unread refl in
    let fetches = fetches_on old now new (Ok tt) so_far.items told.items so_far.rows told.rows so_far.fetches so_far.unread so_far.same.limit told.fetches in
    record {
      same_sink = of.same_sink ∙ so_far.same_sink;
      fresh = of.fresh;
      same = same_lister-then old now new so_far.same leaves.same;
      going = leaves.going refl;
      stands = λ _. leaves.stands refl;
      rows = so_far.rows ++ told.rows;
      items = so_far.items ++ told.items;
      fetches =
          FetchesAtMost-within _ (old.unread + rows_cost old.source.size old.limit (so_far.items ++ told.items) (so_far.rows ++ told.rows) - new.unread) old.source new.source (omega (arith, unread)) fetches;
      unread = omega (arith, unread);
      named = names_more so_far.items told.items old.counts.fetched now.counts.fetched new.counts.fetched so_far.named told.named;
      taken = taken_then g.K.CheckRowSink.step so_far.rows told.rows c.args.maker.now.sink.now c.entries.maker.sink.now c.check_run.new.maker.sink.now so_far.taken told.handed;
      checks = λ file known.
          let on = so_far.checks file known in
          checks_more file old.limit old now new so_far.rows so_far.items c.entries.counter on told.items told.rows (told.gives _ on.counts.left)
          (leaves.left refl ∙ skipped_left file new old.limit new.passed (fetches.same_content ∙ known)
          (leaves.same.choice ∙ so_far.same.choice ∙ c.requires.left.choice_is) (leaves.same.limit ∙ so_far.same.limit) refl);
    }

-- ---- the end

pub returns-then-not-more-clause-rows : goal.returns-then-not-more-clause-rows
returns-then-not-more-clause-rows g c =
    let so_far = c.entries.invariant in
    let told = (rw c.if-not-more.true at c.in_ok-more.ensures).rows in
    record {
      rows = so_far.rows ++ told.rows;
      items = so_far.items ++ told.items;
      handed = taken_then g.K.CheckRowSink.step so_far.rows told.rows c.args.maker.now.sink.now c.entries.maker.sink.now c.check_run.new.maker.sink.now so_far.taken told.handed;
      of_file = λ file known.
          let on = so_far.checks file known in
          rows_end file c.args.lister.now.limit c.args.lister.now c.entries.lister c.check_run.new.lister so_far.rows so_far.items c.entries.counter on told.items told.rows (told.gives _ on.counts.left);
      read = λ file known.
          let on = so_far.checks file known in
          read_end file c.args.lister.now.limit c.args.lister.now c.entries.lister c.check_run.new.lister so_far.rows so_far.items c.entries.counter on told.items told.rows (told.gives _ on.counts.left);
      named = names_more so_far.items told.items _ _ _ so_far.named told.named;
      fetches = fetches_on c.args.lister.now c.entries.lister c.check_run.new.lister (Ok tt) so_far.items told.items so_far.rows told.rows so_far.fetches so_far.unread so_far.same.limit told.fetches;
    }

pub returns-then-not-more-clause-leaves : goal.returns-then-not-more-clause-leaves
returns-then-not-more-clause-leaves g c = record {
  ends = record { next = tt; chosen = λ _. tt; names = tt };
  names = λ file known.
      let so_far = c.entries.invariant in
      let told = (rw c.if-not-more.true at c.in_ok-more.ensures).rows in
      let on = so_far.checks file known in
      names_end file c.args.lister.now.limit c.args.lister.now c.entries.lister c.check_run.new.lister so_far.rows so_far.items c.entries.counter on told.items told.rows (told.gives _ on.counts.left);
  same = same_lister-then c.args.lister.now c.entries.lister c.check_run.new.lister c.entries.invariant.same c.in_ok-more.ensures.leaves.same;
}

-- ---- an early end

pub returns-in_err-more-clause-rows : goal.returns-in_err-more-clause-rows
returns-in_err-more-clause-rows g c =
    let so_far = c.entries.invariant in
    let told = c.in_err-more.ensures.rows in
    let fault = c.in_err-more.field-0.0 in
    let is : c.from_residual.result ≡ Err fault = search rules in
    rw is (record {
      rows = so_far.rows ++ told.rows;
      items = so_far.items ++ told.items;
      handed = handed_then g.K.CheckRowSink.step (Err fault) so_far.rows told.rows c.args.maker.now.sink.now c.entries.maker.sink.now c.check_run.new.maker.sink.now so_far.taken told.handed;
      of_file = λ file known.
          let on = so_far.checks file known in
          rows_early file c.args.lister.now.limit c.args.lister.now c.entries.lister c.check_run.new.lister so_far.rows so_far.items c.entries.counter on told.items told.rows (told.gives _ on.counts.left);
      read = λ file known.
          let on = so_far.checks file known in
          read_early file c.args.lister.now.limit c.args.lister.now c.entries.lister c.check_run.new.lister so_far.rows so_far.items c.entries.counter on told.items told.rows (told.gives _ on.counts.left);
      named = names_more so_far.items told.items _ _ _ so_far.named told.named;
      fetches =
          fetches_on c.args.lister.now c.entries.lister c.check_run.new.lister (Err fault) so_far.items told.items so_far.rows told.rows so_far.fetches so_far.unread so_far.same.limit told.fetches;
    })

pub returns-in_err-more-clause-leaves : goal.returns-in_err-more-clause-leaves
returns-in_err-more-clause-leaves g c =
    let so_far = c.entries.invariant in
    let of = c.in_err-more.ensures.leaves in
    let told = c.in_err-more.ensures.rows in
    let fault = c.in_err-more.field-0.0 in
    let is : c.from_residual.result ≡ Err fault = search rules in
    rw is (record {
      ends = record { next = of.ends.next; chosen = λ in_chosen. of.ends.chosen (so_far.stands in_chosen); names = of.ends.names };
      names = λ file known.
          let on = so_far.checks file known in
          names_early file c.args.lister.now.limit c.args.lister.now c.entries.lister c.check_run.new.lister so_far.rows so_far.items c.entries.counter on told.items told.rows (told.gives _ on.counts.left);
      same = same_lister-then c.args.lister.now c.entries.lister c.check_run.new.lister so_far.same of.same;
    })

pub returns-in_err-more-clause-told : goal.returns-in_err-more-clause-told
returns-in_err-more-clause-told g c =
    let fault = c.in_err-more.field-0.0 in
    let is : c.from_residual.result ≡ Err fault = search rules in
    rw is (told_later _ c.args.lister.now c.entries.lister c.check_run.new.lister fault c.entries.invariant.fetches c.in_err-more.ensures.told)

-- ---- after as many runs as there may be

pub returns-clause-rows : goal.returns-clause-rows
returns-clause-rows g c =
    let so_far = c.entries.invariant in
    record {
      rows = so_far.rows;
      items = so_far.items;
      handed = so_far.taken;
      named = so_far.named;
      fetches = FetchesAtMost-within _ _ _ _ (omega arith) so_far.fetches;
      read = λ file known.
          let on = so_far.checks file known in
          let count : c.header.result.number_of_streams ≡ entry_count file = ap (λ (h : Header). h.number_of_streams) (c.header.ensures ∙ c.requires.left.header_is file known) in
          absurd (omega (arith, count, on.counts.few, on.counts.within, on.runs_are, c.from-runs.ensures, c.entries-test.false));
      of_file = λ file known.
          let on = so_far.checks file known in
          let count : c.header.result.number_of_streams ≡ entry_count file = ap (λ (h : Header). h.number_of_streams) (c.header.ensures ∙ c.requires.left.header_is file known) in
          absurd (omega (arith, count, on.counts.few, on.counts.within, on.runs_are, c.from-runs.ensures, c.entries-test.false));
    }

pub returns-clause-leaves : goal.returns-clause-leaves
returns-clause-leaves g c = record {
  ends = record { next = tt; chosen = λ _. tt; names = tt };
  names = λ file known.
      let on = c.entries.invariant.checks file known in
      let count : c.header.result.number_of_streams ≡ entry_count file = ap (λ (h : Header). h.number_of_streams) (c.header.ensures ∙ c.requires.left.header_is file known) in
      absurd (omega (arith, count, on.counts.few, on.counts.within, on.runs_are, c.from-runs.ensures, c.entries-test.false));
  same = c.entries.invariant.same;
}
