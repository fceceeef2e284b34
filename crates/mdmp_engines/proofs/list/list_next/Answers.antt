use Rattle.std.proofs.Common.{◌≡◌, ◌∙◌, ◌+◌, ℕ, Bool, Option, Some, Err, arith, false, refl, subst}
use Rattle.std.specs.Prelude.{slice_get}
use Rattle.mdmp_source.specs.SourceLaws.{fetches_then}
use Rattle.mdmp_lister.proofs.Standpoints.{run_fetch}
use Rattle.mdmp_lister.specs.FaultLaws.{next_fits}
use Rattle.mdmp_lister.specs.Format.Item.{plain}
use Rattle.mdmp_lister.proofs.Requested.{aside_none, item_requested}
use Rattle.mdmp_summary.proofs.InEntries.{answers_fault, answers_item}
use Rattle.mdmp_engines.specs.declared.fault.ToolFault.TheVariants.{Out}
use Rattle.mdmp_engines.proofs.Asking.{requested_end, requested_fault, requested_one}
use Rattle.mdmp_engines.specs.Engines.{up_to_a_fault}
use Rattle.mdmp_engines.specs.Runs.{PutsSymbols}
use Rattle.mdmp_engines.specs.Text.{symbols_text}
use Rattle.mdmp_engines.specs.declared.list.ModuleSymbols.{ModuleSymbols}
use Rattle.mdmp_engines.proofs.Symbols.{IsBehindNext-aside, Leaves-cut, Leaves-done, Leaves-fault, Leaves-later, Leaves-listed, ListsNext-cut, ListsNext-fault, ListsNext-line, ListsNext-symbols, end-more, fault-more, refused_by, symbols-inside, symbols_text-is}
use Rattle.mdmp_engines.proofs.Besides.{ReadsNext-none, ReadsNext-record, rests_fault, rests_listing, taken_end, taken_next}
use Rattle.mdmp_engines.proofs.Reached.{names_fault, names_next, names_none}
use Rattle.mdmp_engines.proofs.SameRuns.{budget_fault, budget_listing, run_list, run_none, run_then, aside_fault, aside_listing, aside_same}
use Rattle.mdmp_engines.proofs.list.list_next.Goals as goal

pub returns-in-Err-print_item-clause-lists : goal.returns-in-Err-print_item-clause-lists
returns-in-Err-print_item-clause-lists g c = λ file content left known.
    let x = c.in-Ok-Some.item in
    let first : slice_get left.items 0 ≡ Some (plain x) = rw c.in-Ok-Some.field-0-is at (c.in-Ok-Some.ensures.gives left known) in
    ListsNext-line c.args.form c.args.pdb file c.args.lister.now.limit left x first _ _ c.in-Err-print_item.ensures

pub returns-in_err-list_symbols-clause-lists : goal.returns-in_err-list_symbols-clause-lists
returns-in_err-list_symbols-clause-lists g c = λ file content left known.
    let x = c.in-Ok-Some.item in
    let holds = c.next_inlined.follows.holds-at-none.list in
    let f = c.in_err-list_symbols.field-0.0 in
    let is = refused_by c.from_residual.result f c.from_residual.ensures.1 in
    let first : slice_get left.items 0 ≡ Some (plain x) = rw c.in-Ok-Some.field-0-is at (c.in-Ok-Some.ensures.gives left known) in
    let limited = subst
    (λ (n : ℕ). PutsSymbols n c.symbols_of-symbols.result (symbols_text c.args.form file n c.symbols_of-symbols.result) (g.O.Printer.state c.print_item.new.out) (Err f) (g.O.Printer.state c.list_symbols.new.out))
    holds.same.limit (c.in_err-list_symbols.ensures.puts file (holds.spends.fetches.same_content ∙ content)) in
    let cut = subst
    (λ (s : Option ModuleSymbols). PutsSymbols c.args.lister.now.limit s (symbols_text c.args.form file c.args.lister.now.limit s) (g.O.Printer.state c.print_item.new.out) (Err f) (g.O.Printer.state c.list_symbols.new.out))
    c.symbols_of-symbols.ensures limited in
    rw is (ListsNext-cut c.args.form c.args.pdb file c.args.lister.now.limit left x first _ _ _ c.in-Ok.ensures f cut)

pub returns-in_err-list_symbols-clause-leaves : goal.returns-in_err-list_symbols-clause-leaves
returns-in_err-list_symbols-clause-leaves g c =
    let holds = c.next_inlined.follows.holds-at-none.list in
    let f = c.in_err-list_symbols.field-0.0 in
    let is = refused_by c.from_residual.result f c.from_residual.ensures.1 in
    rw is (Leaves-fault f _ _ _ _ (Leaves-later _ _ _ _ _ _ _ (Err f) holds.spends.fetches c.in-Ok.ensures.steady c.in_err-list_symbols.ensures.leaves))

pub returns-clause-lists : goal.returns-clause-lists
returns-clause-lists g c = λ file content left known.
    let x = c.in-Ok-Some.item in
    let holds = c.next_inlined.follows.holds-at-none.list in
    let first : slice_get left.items 0 ≡ Some (plain x) = rw c.in-Ok-Some.field-0-is at (c.in-Ok-Some.ensures.gives left known) in
    let line = symbols_text-is c.args.form file _ _ _ _ holds.same.limit c.symbols_of-symbols.ensures in
    let told = rw line at (c.in_ok-list_symbols.ensures.puts file (holds.spends.fetches.same_content ∙ content)) in
    ListsNext-symbols c.args.form c.args.pdb file c.args.lister.now.limit left x first _ _ _ c.in-Ok.ensures told

pub returns-clause-leaves : goal.returns-clause-leaves
returns-clause-leaves g c =
    let holds = c.next_inlined.follows.holds-at-none.list in
    let told = c.in_ok-list_symbols.ensures.leaves in
    record {
      good = λ file good. tt;
      behind = tt;
      reads = record { cause = tt; fetches = record { count = _ + told.reads.fetches.count; fetches = fetches_then _ _ _ _ _ holds.spends.fetches told.reads.fetches.fetches } };
      out_cause = told.out_cause ∙ c.in-Ok.ensures.steady;
    }

pub returns-in-Err-clause-lists : goal.returns-in-Err-clause-lists
returns-in-Err-clause-lists g c = λ file content left known.
    rw c.told_list.ensures (ListsNext-fault c.args.form c.args.pdb file c.args.lister.now.limit left _ c.in-Err.fault (c.in-Err.ensures.gives left known))

pub returns-in-Err-clause-leaves : goal.returns-in-Err-clause-leaves
returns-in-Err-clause-leaves g c =
    let holds = c.next_inlined.follows.holds-at-none in
    let fits = next_fits c.args.lister.now c.in-Err.fault c.next_inlined.follows.lender-at-none (rw c.in-Err.is at (holds.follows c.requires)) in
    rw c.told_list.ensures
    (Leaves-listed up_to_a_fault ⊥ c.args.lister.now.current c.in-Err.fault _ _ _ (record { count = _; fetches = holds.list.spends.fetches }) (rw c.in-Err.is at (holds.list.told c.requires)) c.in-Err.ensures.good fits tt tt)

pub list_symbols-requires : goal.list_symbols-requires
list_symbols-requires g c =
    let holds = c.next_inlined.follows.holds-at-none.list in
    let inside = symbols-inside c.args.pdb _ c.next_inlined.follows.lender-at-none.current c.in-Ok-Some.item (rw (c.in-Ok-Some.is, c.in-Ok-Some.field-0-is) at holds.places.classed) in
    rw (c.symbols_of-symbols.ensures, holds.spends.fetches.same_size) inside

pub returns-in-Err-clause-over : goal.returns-in-Err-clause-over
returns-in-Err-clause-over g c =
    let list = (rw c.in-Err.is at c.next_inlined.follows.holds-at-none).list in
    let fetches = list.spends.fetches in
    let f = c.in-Err.fault in
    let new = c.next_inlined.follows.lender-at-none in
    let follows = rw c.in-Err.is at (c.next_inlined.follows.holds-at-none.follows c.requires) in
    rw c.told_list.ensures
    (budget_listing Bool f c.args.lister.now new list.spends.refused (run_fetch c.args.lister.now new f list.same fetches.same_content fetches.same_size list.places.current (list.next c.requires))
    (λ stands. answers_fault c.args.lister.now new list.same.choice list.same.entries stands f follows))

pub returns-in-Ok-None-clause-lists : goal.returns-in-Ok-None-clause-lists
returns-in-Ok-None-clause-lists g c = λ file content left known. (rw c.in-Ok-None.field-0-is at (c.in-Ok-None.ensures.gives left known), refl)

pub returns-in-Ok-None-clause-rest : goal.returns-in-Ok-None-clause-rest
returns-in-Ok-None-clause-rest g c = end-more _ refl

pub returns-in-Ok-None-clause-leaves : goal.returns-in-Ok-None-clause-leaves
returns-in-Ok-None-clause-leaves g c = Leaves-done _ _ _ _ _ false c.next_inlined.follows.holds-at-none.list.spends.fetches refl

pub returns-in-Ok-None-clause-same : goal.returns-in-Ok-None-clause-same
returns-in-Ok-None-clause-same g c = run_list _ _ _ (run_none _) c.next_inlined.follows.holds-at-none.list.same

pub returns-in-Err-print_item-clause-rest : goal.returns-in-Err-print_item-clause-rest
returns-in-Err-print_item-clause-rest g c = fault-more _

pub returns-in-Err-print_item-clause-leaves : goal.returns-in-Err-print_item-clause-leaves
returns-in-Err-print_item-clause-leaves g c = Leaves-cut _ _ _ _ _ c.next_inlined.follows.holds-at-none.list.spends.fetches c.in-Err-print_item.ensures.refused

pub returns-in-Err-print_item-clause-same : goal.returns-in-Err-print_item-clause-same
returns-in-Err-print_item-clause-same g c = run_list _ _ _ (run_none _) c.next_inlined.follows.holds-at-none.list.same

pub returns-in_err-list_symbols-clause-rest : goal.returns-in_err-list_symbols-clause-rest
returns-in_err-list_symbols-clause-rest g c =
    let f = c.in_err-list_symbols.field-0.0 in
    let is = refused_by c.from_residual.result f c.from_residual.ensures.1 in
    rw is (fault-more f)

pub returns-in_err-list_symbols-clause-same : goal.returns-in_err-list_symbols-clause-same
returns-in_err-list_symbols-clause-same g c = run_then _ _ _ (run_list _ _ _ (run_none _) c.next_inlined.follows.holds-at-none.list.same) c.in_err-list_symbols.ensures.same

pub returns-in_err-list_symbols-clause-over : goal.returns-in_err-list_symbols-clause-over
returns-in_err-list_symbols-clause-over g c =
    let f = c.in_err-list_symbols.field-0.0 in
    let is = refused_by c.from_residual.result f c.from_residual.ensures.1 in
    rw is (budget_fault (Unit {0}) Bool f c.args.lister.now c.list_symbols.new.lister c.in_err-list_symbols.ensures.over)

pub returns-clause-rest : goal.returns-clause-rest
returns-clause-rest g c = λ more.
    let holds = rw (c.in-Ok-Some.is, c.in-Ok-Some.field-0-is) at c.next_inlined.follows.holds-at-none in
    IsBehindNext-aside _ _ _ c.in-Ok-Some.item holds.list.stands c.in_ok-list_symbols.ensures.stays.same
    (λ stands. answers_item c.args.lister.now c.next_inlined.follows.lender-at-none holds.list.same.choice holds.list.same.entries stands c.in-Ok-Some.item (holds.follows c.requires))

pub returns-clause-same : goal.returns-clause-same
returns-clause-same g c = run_then _ _ _ (run_list _ _ _ (run_none _) c.next_inlined.follows.holds-at-none.list.same) c.in_ok-list_symbols.ensures.same

pub returns-in-Err-clause-rest : goal.returns-in-Err-clause-rest
returns-in-Err-clause-rest g c = fault-more _

pub returns-in-Err-clause-same : goal.returns-in-Err-clause-same
returns-in-Err-clause-same g c = run_list _ _ _ (run_none _) c.next_inlined.follows.holds-at-none.list.same

pub returns-in-Ok-None-clause-aside : goal.returns-in-Ok-None-clause-aside
returns-in-Ok-None-clause-aside g c = λ kept. record { kept = aside_same c.args.aside _ _ c.next_inlined.follows.holds-at-none.list.same kept; over = tt }

pub returns-in-Err-print_item-clause-aside : goal.returns-in-Err-print_item-clause-aside
returns-in-Err-print_item-clause-aside g c = λ kept. record { kept = aside_same c.args.aside _ _ c.next_inlined.follows.holds-at-none.list.same kept; over = tt }

pub returns-in_err-list_symbols-clause-aside : goal.returns-in_err-list_symbols-clause-aside
returns-in_err-list_symbols-clause-aside g c = λ kept.
    let f = c.in_err-list_symbols.field-0.0 in
    let is = refused_by c.from_residual.result f c.from_residual.ensures.1 in
    rw is (aside_fault (Unit {0}) Bool c.args.aside f _ (c.in_err-list_symbols.ensures.aside (aside_same c.args.aside _ _ c.next_inlined.follows.holds-at-none.list.same kept)))

pub returns-clause-aside : goal.returns-clause-aside
returns-clause-aside g c = λ kept.
    record { kept = (c.in_ok-list_symbols.ensures.aside (aside_same c.args.aside _ _ c.next_inlined.follows.holds-at-none.list.same kept)).kept; over = tt }

pub returns-in-Err-clause-aside : goal.returns-in-Err-clause-aside
returns-in-Err-clause-aside g c = λ kept.
    rw c.told_list.ensures (aside_listing Bool c.args.aside c.in-Err.fault _ (aside_same c.args.aside _ _ c.next_inlined.follows.holds-at-none.list.same kept))

pub returns-in-Ok-None-clause-read : goal.returns-in-Ok-None-clause-read
returns-in-Ok-None-clause-read g c = record {
  beside = ReadsNext-none c.args.pdb _ _ c.next_inlined.follows.holds-at-none.list.same.aside;
  requests = requested_end false c.args.lister.now c.next_inlined.follows.lender-at-none record {
    leaves = rw (c.in-Ok-None.is, c.in-Ok-None.field-0-is) at c.next_inlined.follows.holds-at-none;
    gives = λ left known. rw c.in-Ok-None.field-0-is at (c.in-Ok-None.ensures.gives left known);
  };
  rests = tt;
  taken = λ file content left known. taken_end file c.args.pdb c.args.lister.now c.next_inlined.follows.lender-at-none left c.next_inlined.follows.holds-at-none.list.same.aside (rw c.in-Ok-None.field-0-is at (c.in-Ok-None.ensures.gives left known));
}

pub returns-in-Err-print_item-clause-read : goal.returns-in-Err-print_item-clause-read
returns-in-Err-print_item-clause-read g c = record {
  beside = ReadsNext-none c.args.pdb _ _ c.next_inlined.follows.holds-at-none.list.same.aside;
  requests = requested_one c.args.lister.now c.next_inlined.follows.lender-at-none c.next_inlined.follows.lender-at-none (plain c.in-Ok-Some.item) Out
      (item_requested c.args.lister.now c.in-Ok-Some.item c.next_inlined.follows.lender-at-none (rw (c.in-Ok-Some.is, c.in-Ok-Some.field-0-is) at c.next_inlined.follows.holds-at-none) (λ left known. rw c.in-Ok-Some.field-0-is at (c.in-Ok-Some.ensures.gives left known))) (aside_none _) tt;
  rests = tt;
  taken = λ file content left known. tt;
}

pub returns-in-Err-clause-read : goal.returns-in-Err-clause-read
returns-in-Err-clause-read g c = rw c.told_list.ensures (record {
  beside = ReadsNext-none c.args.pdb _ _ c.next_inlined.follows.holds-at-none.list.same.aside;
  requests = requested_fault c.args.lister.now c.next_inlined.follows.lender-at-none c.in-Err.fault record { leaves = rw c.in-Err.is at c.next_inlined.follows.holds-at-none; gives = c.in-Err.ensures.gives };
  rests = rests_listing Bool c.in-Err.fault c.args.lister.now c.next_inlined.follows.lender-at-none c.next_inlined.follows.holds-at-none.list.same.aside;
  taken = λ file content left known. tt;
})

pub returns-in_err-list_symbols-clause-read : goal.returns-in_err-list_symbols-clause-read
returns-in_err-list_symbols-clause-read g c =
    let f = c.in_err-list_symbols.field-0.0 in
    let is = refused_by c.from_residual.result f c.from_residual.ensures.1 in
    rw is (record {
      beside = ReadsNext-record c.args.pdb _ _ _ c.in-Ok-Some.item _ c.next_inlined.follows.holds-at-none.list.same c.symbols_of-symbols.ensures
          (λ left known. rw c.in-Ok-Some.field-0-is at (c.in-Ok-Some.ensures.gives left known)) c.in_err-list_symbols.ensures.read.most;
      requests = requested_one c.args.lister.now c.next_inlined.follows.lender-at-none c.list_symbols.new.lister (plain c.in-Ok-Some.item) f
          (item_requested c.args.lister.now c.in-Ok-Some.item c.next_inlined.follows.lender-at-none (rw (c.in-Ok-Some.is, c.in-Ok-Some.field-0-is) at c.next_inlined.follows.holds-at-none) (λ left known. rw c.in-Ok-Some.field-0-is at (c.in-Ok-Some.ensures.gives left known))) c.in_err-list_symbols.ensures.stays c.in_err-list_symbols.ensures.only;
      rests = rests_fault (Unit {0}) Bool f c.args.lister.now c.next_inlined.follows.lender-at-none c.list_symbols.new.lister c.next_inlined.follows.holds-at-none.list.same.aside c.in_err-list_symbols.ensures.read.rests;
      taken = λ file content left known. tt;
    })

pub returns-clause-read : goal.returns-clause-read
returns-clause-read g c =
    record {
      beside = ReadsNext-record c.args.pdb _ _ _ c.in-Ok-Some.item _ c.next_inlined.follows.holds-at-none.list.same c.symbols_of-symbols.ensures
          (λ left known. rw c.in-Ok-Some.field-0-is at (c.in-Ok-Some.ensures.gives left known)) c.in_ok-list_symbols.ensures.read.most;
      requests = (
        plain c.in-Ok-Some.item,
        (c.next_inlined.follows.lender-at-none, ((item_requested c.args.lister.now c.in-Ok-Some.item c.next_inlined.follows.lender-at-none (rw (c.in-Ok-Some.is, c.in-Ok-Some.field-0-is) at c.next_inlined.follows.holds-at-none) (λ left known. rw c.in-Ok-Some.field-0-is at (c.in-Ok-Some.ensures.gives left known))), c.in_ok-list_symbols.ensures.stays)),
      );
      rests = tt;
      taken = λ file content left known.
          let holds = c.next_inlined.follows.holds-at-none.list in
          taken_next file c.args.pdb c.args.lister.now c.next_inlined.follows.lender-at-none c.list_symbols.new.lister c.in-Ok-Some.item c.symbols_of-symbols.result left holds.same c.symbols_of-symbols.ensures
          (rw c.in-Ok-Some.field-0-is at (c.in-Ok-Some.ensures.gives left known)) (c.in_ok-list_symbols.ensures.read.taken file (holds.spends.fetches.same_content ∙ content));
    }

pub returns-in-Ok-None-clause-names : goal.returns-in-Ok-None-clause-names
returns-in-Ok-None-clause-names g c = λ left known.
    let holds = c.next_inlined.follows.holds-at-none in
    names_none left _ _ (rw c.in-Ok-None.field-0-is at (c.in-Ok-None.ensures.gives left known)) holds.few_names (rw (c.in-Ok-None.is, c.in-Ok-None.field-0-is) at holds.list.spends.names)

pub returns-in-Err-print_item-clause-names : goal.returns-in-Err-print_item-clause-names
returns-in-Err-print_item-clause-names g c = λ left known.
    let holds = c.next_inlined.follows.holds-at-none in
    let x = c.in-Ok-Some.item in
    let first : slice_get left.items 0 ≡ Some (plain x) = rw c.in-Ok-Some.field-0-is at (c.in-Ok-Some.ensures.gives left known) in
    let now = names_next left x _ _ first holds.few_names (rw (c.in-Ok-Some.is, c.in-Ok-Some.field-0-is) at holds.list.spends.names) in
    omega (arith, now)

pub returns-in_err-list_symbols-clause-names : goal.returns-in_err-list_symbols-clause-names
returns-in_err-list_symbols-clause-names g c = λ left known.
    let holds = c.next_inlined.follows.holds-at-none in
    let f = c.in_err-list_symbols.field-0.0 in
    let is = refused_by c.from_residual.result f c.from_residual.ensures.1 in
    let x = c.in-Ok-Some.item in
    let first : slice_get left.items 0 ≡ Some (plain x) = rw c.in-Ok-Some.field-0-is at (c.in-Ok-Some.ensures.gives left known) in
    let now = names_next left x _ _ first holds.few_names (rw (c.in-Ok-Some.is, c.in-Ok-Some.field-0-is) at holds.list.spends.names) in
    let same = c.in_err-list_symbols.ensures.names in
    rw is (omega (arith, now, same))

pub returns-clause-names : goal.returns-clause-names
returns-clause-names g c = λ left known.
    let holds = c.next_inlined.follows.holds-at-none in
    let x = c.in-Ok-Some.item in
    let first : slice_get left.items 0 ≡ Some (plain x) = rw c.in-Ok-Some.field-0-is at (c.in-Ok-Some.ensures.gives left known) in
    c.in_ok-list_symbols.ensures.names ∙ names_next left x _ _ first holds.few_names (rw (c.in-Ok-Some.is, c.in-Ok-Some.field-0-is) at holds.list.spends.names)

pub returns-in-Err-clause-names : goal.returns-in-Err-clause-names
returns-in-Err-clause-names g c = λ left known.
    let spends = c.next_inlined.follows.holds-at-none.list.spends in
    names_fault left c.in-Err.fault.kind _ _ (rw c.in-Err.is at (spends.names_at_fault c.requires)).1
