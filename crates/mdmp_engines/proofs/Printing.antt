-- Items printed one by one.
use Rattle.std.proofs.Common.{◌≡◌, ◌∙◌, ◌++◌, ◌∷◌, ℕ, List, [], Bool, false, Option, Some, None, refl, ap, subst, sym, append_assoc, append-nil}
use Rattle.std.specs.Prelude.{Ok, Err, Result, drop, take}
use Rattle.std.specs.List.{flat_map}
use Rattle.std.proofs.lemmas.List.{take-append-drop}
use Rattle.std.proofs.lemmas.List.Concat.{flat_map-append}
use Rattle.mdmp_source.specs.Output.{OutState, PutsAll}
use Rattle.mdmp_source.specs.OutputLaws.{PutsAll-nothing, PutsAll-PutsAll, PutsPrefix-behind, TakesPrefix-behind}
use Rattle.mdmp_lister.specs.declared.fault.ListFault.{ListFault}
use Rattle.mdmp_lister.specs.declared.item.Item.{Item}
use Rattle.mdmp_lister.specs.Lister.{tail}
use Rattle.mdmp_lister.specs.Format.Listing.{Run}
use Rattle.mdmp_engines.proofs.Engining.{StopsShort-nothing}
use Rattle.mdmp_engines.specs.declared.fault.ToolFault.{ToolFault}
use Rattle.mdmp_engines.specs.declared.fault.ToolFault.TheVariants.{List as BadList, Source, Budget, AsideLimit, Out}
use Rattle.mdmp_engines.specs.Engines.{StopsShort}
use Rattle.mdmp_engines.specs.Runs.{ListsNext, ListsRun}
use Rattle.mdmp_engines.specs.Text.{item_lines, next_lines, run_text}
use Rattle.mdmp_print.specs.declared.form.LineForm.{LineForm}

-- what is printed next with names up to the limit of a run
pub next_within : (form : LineForm) (pdb : Bool) (F : List ℕ) (a b : ℕ) (left : Run) (before : OutState) (r : Result Bool ToolFault) (after : OutState) → a ≡ b
    → ListsNext form pdb F a left before r after → ListsNext form pdb F b left before r after
next_within form pdb F a b left before r after same next = subst (λ n. ListsNext form pdb F n left before r after) same next

pub next_told : (form : LineForm) (pdb : Bool) (F : List ℕ) (a b : ℕ) (left : Run) (before : OutState) (is more : Bool) (after : OutState) → a ≡ b → is ≡ more
    → ListsNext form pdb F a left before (Ok is) after → ListsNext form pdb F b left before (Ok more) after
next_told form pdb F a b left before is more after same told next =
    next_within form pdb F a b left before (Ok more) after same (subst (λ (m : Bool). ListsNext form pdb F a left before (Ok m) after) told next)

module _ (form : LineForm) (pdb : Bool) (F : List ℕ) (limit : ℕ) where
  abbrev lines : Item → List ℕ
  lines = item_lines form pdb F limit

  -- some of a run's items were printed, and the rest is left
  pub record HasPrinted (run : Run) (before : OutState) (left : Run) (now : OutState) : Type 0 where
    pub given : List Item
    pub items : run.items ≡ given ++ left.items
    pub fault : run.fault ≡ left.fault
    pub text : PutsAll before (flat_map (item_lines form pdb F limit) given) now

  pub HasPrinted-none : (run : Run) (before : OutState) → HasPrinted run before run before
  HasPrinted-none run before = record { given = []; items = refl; fault = refl; text = PutsAll-nothing before }

  -- the next one was printed too
  pub HasPrinted-next : (run left : Run) (before now after : OutState) → HasPrinted run before left now → PutsAll now (next_lines form pdb F limit left) after
      → HasPrinted run before (tail left) after
  HasPrinted-next run left before now after printed put = record {
    given = printed.given ++ take 1 left.items;
    items =
        printed.items
        ∙ ap (λ (xs : List Item). printed.given ++ xs) (sym (take-append-drop 1 left.items))
        ∙ sym (append_assoc printed.given (take 1 left.items) (drop 1 left.items));
    fault = printed.fault;
    text =
        rw (flat_map-append lines printed.given (take 1 left.items))
        (PutsAll-PutsAll before now after (flat_map lines printed.given) (next_lines form pdb F limit left) printed.text put);
  }

  -- the text of a run is that of the items given, of the next one, and of the rest
  text_split : (run left : Run) (before now : OutState) (printed : HasPrinted run before left now)
      → run_text form pdb F limit run ≡ flat_map lines printed.given ++ (next_lines form pdb F limit left ++ run_text form pdb F limit (tail left))
  text_split run left before now printed =
      ap (flat_map lines) printed.items
      ∙ flat_map-append lines printed.given left.items
      ∙ ap (λ (text : List ℕ). flat_map lines printed.given ++ text)
      (ap (flat_map lines) (sym (take-append-drop 1 left.items)) ∙ flat_map-append lines (take 1 left.items) (drop 1 left.items))

  -- all was printed, where no item is left
  whole : (run left : Run) (before now : OutState) (fault : Option ListFault) → HasPrinted run before left now → left ≡ record { items = []; fault = fault }
      → PutsAll before (run_text form pdb F limit run) now
  whole run left before now fault printed end =
      rw (ap (flat_map lines) (printed.items ∙ ap (λ (r : Run). printed.given ++ r.items) end ∙ append-nil printed.given)) printed.text

  pub ListsRun-end : (run left : Run) (before now after : OutState) → HasPrinted run before left now → ListsNext form pdb F limit left now (Ok false) after
      → ListsRun form pdb F limit run before (Ok tt) after
  ListsRun-end run left before now after printed (end, same) =
      rw same (record { ends = printed.fault ∙ ap (λ (r : Run). r.fault) end; writes = whole run left before now None printed end })

  -- the lines of the next one stop short behind all others
  cut_short : (run left : Run) (before now after : OutState) → HasPrinted run before left now → StopsShort now (next_lines form pdb F limit left) after → StopsShort before (run_text form pdb F limit run) after
  cut_short run left before now after printed short = record {
    took =
        rw (text_split run left before now printed)
        (TakesPrefix-behind before.taken now.taken after.taken (flat_map lines printed.given) (next_lines form pdb F limit left) (run_text form pdb F limit (tail left)) printed.text.took short.took);
    steady = short.steady ∙ printed.text.steady;
  }

  -- the next one was not printed, or not all of it
  pub ListsRun-fault : (run left : Run) (before now after : OutState) (f : ToolFault) → HasPrinted run before left now → ListsNext form pdb F limit left now (Err f) after
      → ListsRun form pdb F limit run before (Err f) after
  ListsRun-fault run left before now after (BadList fault) printed (end, same) =
      rw same (record { ends = printed.fault ∙ ap (λ (r : Run). r.fault) end; writes = whole run left before now (Some fault) printed end })
  ListsRun-fault run left before now after (Source fault) printed short = record {
    ends = tt;
    writes = cut_short run left before now after printed short;
  }
  ListsRun-fault run left before now after (Budget offset size) printed same = record {
    ends = tt;
    writes = cut_short run left before now after printed (rw same (StopsShort-nothing now (next_lines form pdb F limit left)));
  }
  ListsRun-fault run left before now after (AsideLimit offset size) printed (among, short) = record {
    ends = record {
      before = printed.given ++ among.before;
      item = among.item;
      after = among.after ++ drop 1 left.items;
      is =
          printed.items
          ∙ ap (λ (xs : List Item). printed.given ++ xs)
          (sym (take-append-drop 1 left.items) ∙ ap (λ (xs : List Item). xs ++ drop 1 left.items) among.is ∙ append_assoc among.before (among.item ∷ among.after) (drop 1 left.items))
          ∙ sym (append_assoc printed.given among.before (among.item ∷ (among.after ++ drop 1 left.items)));
      at = among.at;
    };
    writes = cut_short run left before now after printed short;
  }
  ListsRun-fault run left before now after Out printed cut = record {
    ends = tt;
    writes =
        rw (text_split run left before now printed)
        (PutsPrefix-behind before now after (flat_map lines printed.given) (next_lines form pdb F limit left) (run_text form pdb F limit (tail left)) printed.text cut);
  }
  ListsRun-fault run left before now after _ printed none = absurd none
