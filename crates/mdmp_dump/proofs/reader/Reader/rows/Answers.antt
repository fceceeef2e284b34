use Rattle.std.proofs.Common.{Some, [], ap, arith, length, length-append, refl, subst, sym, ℕ, ◌++◌, ◌+◌, ◌∙◌, ◌∷◌, ◌≡◌}
use Rattle.mdmp_wire.specs.declared.entry.Entry.{Entry}
use Rattle.mdmp_dump.specs.Left.{left_from}
use Rattle.mdmp_dump.proofs.Keeping.{keeps_err, keeps_memory, keeps_none, keeps_then}
use Rattle.mdmp_dump.proofs.Settled.{going_before, rows-all, rows-more, rows-none}
use Rattle.mdmp_dump.proofs.Taking.{FetchesSome_none, FetchesSome_then, Fetches_memory, fetches_err, fetches_ok, refused_by}
use Rattle.mdmp_dump.proofs.ItemsRead.{parts_none, reads_as, reads_done, reads_memory, reads_parts, reads_then, steps_sized}
use Rattle.mdmp_dump.proofs.reader.Reader.rows.Goals as goal

pub loop-rows-preserved : goal.loop-rows-preserved
loop-rows-preserved g c =
    let before = c.loop-rows.invariant in
    let rows = c.loop-rows.rows.items in
    let row = c.in-Row.row in
    let going = rw c.in-Row.is at c.in_ok-row.ensures.going in
    let pushed : c.push_reserved.new.self.items ≡ rows ++ (row ∷ []) = rw c.reserve_exact.ensures.items at c.push_reserved.ensures.items in
    let len : length rows + 1 ≡ length c.push_reserved.new.self.items = rw pushed (sym (length-append rows (row ∷ []))) in
    record {
      going = going.0.0;
      current = going.1 ∙ before.current;
      fetches = FetchesSome_then c.args.self.now.lister.source c.loop-rows.self.lister.source c.next.new.self.lister.source before.fetches c.in_ok-row.ensures.fetches.fetches;
      keeps = keeps_then c.args.self.now c.loop-rows.self c.next.new.self before.keeps c.in_ok-row.ensures.keeps;
      reads = reads_done [] [] _ tt _ _ (reads_then [] [] [] tt _ _ c.loop-rows.self.lister _ before.going before.reads (rw c.in-Row.is at c.in_ok-row.ensures.reads));
      rests = omega (arith, before.rests, going.0.1);
      of_file = λ file limit x xs known left kind current.
          let so_far = before.of_file file limit x xs known left kind current in
          let given = rw c.in-Row.is at (c.in_ok-row.ensures.of_file file limit x (length rows) xs (before.fetches.fetches.same_content ∙ known) so_far.0 kind (ap (λ (e : Entry). e.stream_type) before.current ∙ current)) in (
            subst (λ (n : ℕ). c.next.new.self.lister.left ≡ Some (left_from file limit x n xs)) len given.0.1,
            (rw pushed (rows-more file x g.T.Row.kind (g.T.Row.IsAt file x.entry.location.rva) rows row so_far.1.0 given.0.0), so_far.1.1 ∙ given.1),
          );
    }

pub returns-in-Behind-clause-of_file : goal.returns-in-Behind-clause-of_file
returns-in-Behind-clause-of_file g c = λ file limit x xs known left kind current.
    let before = c.loop-rows.invariant in
    let rows = c.loop-rows.rows.items in
    let so_far = before.of_file file limit x xs known left kind current in
    let given = rw c.in-Behind.is at (c.in_ok-row.ensures.of_file file limit x (length rows) xs (before.fetches.fetches.same_content ∙ known) so_far.0 kind (ap (λ (e : Entry). e.stream_type) before.current ∙ current)) in
    record {
      value = (rw c.new.ensures (rows-all file x g.T.Row.kind (g.T.Row.IsAt file x.entry.location.rva) rows kind so_far.1.0 given.0.0), given.0.1);
      settles = so_far.1.1 ∙ given.1;
    }

pub returns-in_err-row-clause-of_file : goal.returns-in_err-row-clause-of_file
returns-in_err-row-clause-of_file g c =
    let before = c.loop-rows.invariant in
    let fault = c.in_err-row.field-0.0 in
    let is = refused_by c.from_residual.result fault c.from_residual.ensures.1 in
    rw is (λ file limit x xs known left kind current.
    let so_far = before.of_file file limit x xs known left kind current in
    let given = c.in_err-row.ensures.of_file file limit x (length c.loop-rows.rows.items) xs (before.fetches.fetches.same_content ∙ known) so_far.0 kind (ap (λ (e : Entry). e.stream_type) before.current ∙ current) in
    record { value = tt; settles = λ own. so_far.1.1 ∙ given.1 own })

pub loop-rows-init : goal.loop-rows-init
loop-rows-init g c = rw c.new-rows.ensures.items (record {
  going = c.requires;
  fetches = FetchesSome_none c.args.self.now.lister.source;
  keeps = keeps_none c.args.self.now;
  reads = reads_parts [] [] tt _ _ (parts_none [] c.args.self.now.lister);
  current = refl;
  rests = omega arith;
  of_file = λ file limit x xs known left kind current. (left, (rows-none file x g.T.Row.kind (g.T.Row.IsAt file x.entry.location.rva), refl));
})

pub returns-in_err-row-clause-step : goal.returns-in_err-row-clause-step
returns-in_err-row-clause-step g c =
    let before = c.loop-rows.invariant in
    let fault = c.in_err-row.field-0.0 in
    rw (refused_by c.from_residual.result fault c.from_residual.ensures.1) (record {
      fetches = fetches_err c.args.self.now.lister.source c.loop-rows.self.lister.source c.next.new.self.lister.source before.fetches fault c.in_err-row.ensures.fetches;
      keeps = keeps_err c.args.self.now c.loop-rows.self c.next.new.self before.keeps fault c.in_err-row.ensures.keeps;
      reads = reads_as [] fault _ _ (reads_then [] [] [] tt _ _ c.loop-rows.self.lister _ before.going before.reads c.in_err-row.ensures.reads);
      going = tt;
    })

pub returns-in-Err-clause-step : goal.returns-in-Err-clause-step
returns-in-Err-clause-step g c =
    let before = c.loop-rows.invariant in
    record {
      fetches = Fetches_memory c.args.self.now.lister.source c.next.new.self.lister.source
          (FetchesSome_then c.args.self.now.lister.source c.loop-rows.self.lister.source c.next.new.self.lister.source before.fetches c.in_ok-row.ensures.fetches.fetches);
      keeps = keeps_memory c.args.self.now c.next.new.self (keeps_then c.args.self.now c.loop-rows.self c.next.new.self before.keeps c.in_ok-row.ensures.keeps);
      reads = reads_memory [] [] _ _ _ (reads_then [] [] [] tt _ _ c.loop-rows.self.lister _ before.going before.reads (rw c.in-Row.is at c.in_ok-row.ensures.reads));
      going = tt;
    }

pub returns-in-Behind-clause-step : goal.returns-in-Behind-clause-step
returns-in-Behind-clause-step g c =
    let before = c.loop-rows.invariant in
    let going = rw c.in-Behind.is at c.in_ok-row.ensures.going in
    let all = reads_then [] [] _ tt _ _ c.loop-rows.self.lister _ before.going before.reads (rw c.in-Behind.is at c.in_ok-row.ensures.reads) in
    record {
      fetches = fetches_ok c.args.self.now.lister.source c.loop-rows.self.lister.source c.next.new.self.lister.source before.fetches _ c.in_ok-row.ensures.fetches.fetches;
      keeps = keeps_then c.args.self.now c.loop-rows.self c.next.new.self before.keeps c.in_ok-row.ensures.keeps;
      reads = reads_done [] _ _ _ _ _ (steps_sized [] _ c.in-Behind.next _ _ _ _ before.fetches.fetches.same_size all);
      going = going_before c.args.self.now.lister c.loop-rows.self.lister c.in-Behind.next c.next.new.self.lister before.rests before.keeps.left going;
    }
