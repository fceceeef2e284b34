-- CodeView records that are told behind the lines of modules.
use Rattle.std.proofs.Common.{◌≡◌, ◌∙◌, ◌<◌, ◌+◌, ◌++◌, ◌∷◌, ℕ, List, [], Bool, true, false, Option, Some, inl, inr, refl, ap, subst, sym, arith, append-nil, length}
use Rattle.std.specs.Prelude.{IfSome, Result, Ok, Err, slice_get, take}
use Rattle.std.specs.List.{flat_map}
use Rattle.std.specs.Result.{IsErrAnd}
use Rattle.std.proofs.lemmas.Grind.{common_steps}
use Rattle.mdmp_source.specs.Extent.{extent_of}
use Rattle.mdmp_source.specs.Output.{HasRefused, OutState, PutsAll, PutsPrefix}
use Rattle.mdmp_source.specs.OutputLaws.{PutsAll-PutsAll, PutsPrefix-front, PutsPrefix-last, TakesPrefix-front}
use Rattle.mdmp_source.specs.Range.{IsInside}
use Rattle.mdmp_source.specs.Source.{SourceState, FetchesAtMost, FetchesSome}
use Rattle.mdmp_source.specs.Store.{IsGood}
use Rattle.mdmp_source.specs.SourceLaws.{fetches_then, told_later}
use Rattle.mdmp_source.specs.declared.fault.SourceFault.TheVariants.{Failed, ShortRead, Changed}
use Rattle.mdmp_wire.specs.declared.any_record.AnyRecord.{AnyRecord}
use Rattle.mdmp_wire.specs.declared.any_record.AnyRecord.TheVariants as any
use Rattle.mdmp_wire.specs.declared.entry.Entry.{Entry}
use Rattle.mdmp_lister.specs.declared.fault.FaultKind.{FaultKind}
use Rattle.mdmp_lister.specs.declared.fault.FaultKind.TheVariants as kinds
use Rattle.mdmp_lister.specs.declared.fault.ListFault.{ListFault}
use Rattle.mdmp_lister.specs.declared.item.Item.{Item}
use Rattle.mdmp_lister.specs.declared.item.StreamItem.{StreamItem}
use Rattle.mdmp_lister.specs.declared.item.Item.TheVariants as items
use Rattle.mdmp_lister.specs.declared.name.Name.{Name}
use Rattle.mdmp_lister.specs.Format.Classes.{IsClassed}
use Rattle.mdmp_lister.specs.Format.Item.{item_of, plain}
use Rattle.mdmp_lister.specs.Fault.{IsOfStore, IsUnobtained, IsToldIn}
use Rattle.mdmp_lister.specs.Format.Listing.{Run, only_fault}
use Rattle.mdmp_lister.specs.Following.{FitsFile}
use Rattle.mdmp_lister.specs.Lister.{Gives, ListerState, NextStands}
use Rattle.mdmp_engines.specs.declared.fault.ToolFault.{ToolFault}
use Rattle.mdmp_engines.specs.declared.fault.ToolFault.TheVariants.{List as BadList, Source, Budget, AsideLimit, Out}
use Rattle.mdmp_engines.specs.Causes.{HasSourceCause}
use Rattle.mdmp_engines.specs.Engines.{EndsAtFault, IsBehind, Leaves, Pace, UnlessEarly, up_to_a_fault}
use Rattle.mdmp_print.specs.Forms.{item_line_in}
use Rattle.mdmp_summary.specs.InEntry.{IsInChosen, StandsInChosen}
use Rattle.mdmp_engines.specs.Runs.{IsBehindNext, ListsNext, PutsSymbols}
use Rattle.mdmp_engines.specs.Telling.{listing_told, told_by}
use Rattle.mdmp_engines.specs.Symbols.{IsRecordAt, inside_only, symbols_of}
use Rattle.mdmp_engines.specs.Text.{item_lines, next_lines, symbols_text}
use Rattle.mdmp_engines.specs.declared.list.ModuleSymbols.{ModuleSymbols}
use Rattle.mdmp_print.specs.declared.form.LineForm.{LineForm}
use Rattle.mdmp_engines.proofs.Checking.{told-cause}
use Rattle.mdmp_engines.proofs.Engining.{StopsShort-nothing, cause_from}
use Rattle.mdmp_engines.proofs.PlainLines.{item_lines-plain, symbols_of-plain}

-- it lies inside a file of z bytes, if there is one
abbrev pub IsTellable : ℕ → Option ModuleSymbols → Type 0
IsTellable z symbols = IfSome symbols (λ of. IsInside of.location.rva of.location.size z)

inside_only-is : (of : ModuleSymbols) (z : ℕ) → IsTellable z (inside_only (extent_of of.location z) of)
inside_only-is of z = grind (arith, common_steps)

record-symbols : (pdb : Bool) (z e k offset : ℕ) (fields : AnyRecord) (name : Name) → IsTellable z (symbols_of pdb (item_of z e k offset fields name))
record-symbols false z e k offset fields name = tt
record-symbols true z e k offset (any.Module fields) name = inside_only-is (record { place = record { entry = e; index = k }; location = fields.cv_record }) z
record-symbols true z e k offset _ name = tt

entry-symbols : (pdb : Bool) (z : ℕ) (x : StreamItem) → IsTellable z (symbols_of pdb (items.Stream x))
entry-symbols false z x = tt
entry-symbols true z x = tt

classed-symbols : (pdb : Bool) (z : ℕ) (e : Entry) (x : Item) → IsClassed z e x → IsTellable z (symbols_of pdb (plain x))
classed-symbols pdb z e x (inl stream) = rw stream.1 (entry-symbols pdb z stream.0)
classed-symbols pdb z e x (inr item) =
    rw item.same (record-symbols pdb z item.entry item.index item.offset item.fields item.name)

-- the record of an item that was given lies inside
pub symbols-inside : (pdb : Bool) (z : ℕ) (e : Entry) (x : Item) → IsClassed z e x → IsTellable z (symbols_of pdb x)
symbols-inside pdb z e x classed = subst (IsTellable z) (symbols_of-plain pdb x) (classed-symbols pdb z e x classed)

-- its line is that of the record that is asked for, up to the limit
pub symbols_text-is : (form : LineForm) (F : List ℕ) (a b : ℕ) (s t : Option ModuleSymbols) → a ≡ b → s ≡ t → symbols_text form F a s ≡ symbols_text form F b t
symbols_text-is form F a b s t limit symbols = rw (limit, symbols) refl

pub first_then : (x : Item) (xs : List Item) → slice_get xs 0 ≡ Some x → take 1 xs ≡ x ∷ []
first_then x [] none = absurd (cc)
first_then x (y ∷ ys) first = let same : y ≡ x = cc in ap (λ (z : Item). z ∷ []) same

some_first : (x : Item) (xs : List Item) → slice_get xs 0 ≡ Some x → 0 < length xs
some_first x [] none = absurd (cc)
some_first x (y ∷ ys) first = omega (arith)

module _ (form : LineForm) (pdb : Bool) (F : List ℕ) (limit : ℕ) (left : Run) (x : Item) (first : slice_get left.items 0 ≡ Some (plain x)) where
  -- the lines of what is given next
  next_is : next_lines form pdb F limit left ≡ item_line_in form x ++ symbols_text form F limit (symbols_of pdb x)
  next_is =
      ap (flat_map (item_lines form pdb F limit)) (first_then (plain x) left.items first)
      ∙ append-nil (item_lines form pdb F limit (plain x)) ∙ item_lines-plain form pdb F limit x

  module _ (before mid after : OutState) (line : PutsAll before (item_line_in form x) mid) where
    -- a CodeView record's line follows that of its item
    pub ListsNext-symbols : PutsAll mid (symbols_text form F limit (symbols_of pdb x)) after → ListsNext form pdb F limit left before (Ok true) after
    ListsNext-symbols told = (
      some_first (plain x) left.items first,
      rw next_is (PutsAll-PutsAll before mid after (item_line_in form x) (symbols_text form F limit (symbols_of pdb x)) line told),
    )

    -- the listing ends in it
    pub ListsNext-cut : (f : ToolFault) → PutsSymbols limit (symbols_of pdb x) (symbols_text form F limit (symbols_of pdb x)) mid (Err f) after → ListsNext form pdb F limit left before (Err f) after
    ListsNext-cut (Source fault) same =
        let whole : PutsAll before (item_line_in form x) after = subst (PutsAll before (item_line_in form x)) (sym same) line in
        rw next_is (record {
          took = TakesPrefix-front before.taken after.taken (item_line_in form x) (symbols_text form F limit (symbols_of pdb x)) whole.took;
          steady = whole.steady;
        })
    ListsNext-cut (AsideLimit offset size) (at, same) =
        let whole : PutsAll before (item_line_in form x) after = subst (PutsAll before (item_line_in form x)) (sym same) line in (
          record {
            before = [];
            item = plain x;
            after = [];
            is = first_then (plain x) left.items first;
            at = subst (λ (s : Option ModuleSymbols). IsRecordAt limit s offset size) (sym (symbols_of-plain pdb x)) at;
          },
          rw next_is (record {
            took = TakesPrefix-front before.taken after.taken (item_line_in form x) (symbols_text form F limit (symbols_of pdb x)) whole.took;
            steady = whole.steady;
          }),
        )
    ListsNext-cut Out cut = rw next_is (PutsPrefix-last before mid after (item_line_in form x) (symbols_text form F limit (symbols_of pdb x)) line cut)
    ListsNext-cut _ told = absurd told

  -- the output refused in the line of the item itself
  pub ListsNext-line : (before after : OutState) → PutsPrefix before (item_line_in form x) after → ListsNext form pdb F limit left before (Err Out) after
  ListsNext-line before after cut = rw next_is (PutsPrefix-front before after (item_line_in form x) (symbols_text form F limit (symbols_of pdb x)) cut)

-- no item stood before the fault, or the store failed
pub ListsNext-fault : (form : LineForm) (pdb : Bool) (F : List ℕ) (limit : ℕ) (left : Run) (now : OutState) (f : ListFault) → Gives left (Err f)
    → ListsNext form pdb F limit left now (Err (listing_told f)) now
ListsNext-fault form pdb F limit left now f gives = by f.kind gives where
  by : (kind : FaultKind) → ((IsUnobtained kind → ⊥) → left ≡ only_fault f) → ListsNext form pdb F limit left now (Err (told_by kind f)) now
  by (kinds.Source fault) gives = StopsShort-nothing now (next_lines form pdb F limit left)
  by kinds.Budget gives = refl
  by _ gives = (gives (λ x. x), refl)

-- and no byte went out before it
pub Leaves-listed : {T : Type 0} (pace : Pace) (untouched : Type 0) (e : Entry) (f : ListFault) (old new : SourceState) (out : OutState) → FetchesSome old new → IsToldIn e f old new
    → ((file : List ℕ) → IsGood old.store file → IsOfStore f.kind → ⊥) → FitsFile old.size f → UnlessEarly pace untouched → EndsAtFault pace (UnlessEarly pace untouched)
    → Leaves {T = T} pace untouched old out (Err (listing_told f)) new out
Leaves-listed {T} pace untouched e f old new out some told good fits quiet ends = by f.kind refl where
  by : (kind : FaultKind) → f.kind ≡ kind → Leaves {T = T} pace untouched old out (Err (told_by kind f)) new out
  by (kinds.Source fault) is = record {
    good = λ file reliable. absurd (good file reliable (rw is tt));
    behind = quiet;
    reads = record { cause = told-cause e f fault old new is told; fetches = some };
    out_cause = refl;
  }
  by kinds.Budget is = record { good = λ file reliable. tt; behind = quiet; reads = record { cause = tt; fetches = some }; out_cause = refl }
  by _ is = record { good = λ file reliable. tt; behind = (((λ of. rw is at of), fits), ends); reads = record { cause = tt; fetches = some }; out_cause = refl }

-- nothing ended it behind some fetches, and no output refused
pub Leaves-done : {T : Type 0} {pace : Pace} {untouched : Type 0} (n : ℕ) (old new : SourceState) (before after : OutState) (x : T) → FetchesAtMost n old new
    → after.failures ≡ before.failures → Leaves pace untouched old before (Ok x) new after
Leaves-done n old new before after x fetches steady =
    record { good = λ file good. tt; behind = tt; reads = record { cause = tt; fetches = record { count = n; fetches = fetches } }; out_cause = steady }

-- the output refused
pub Leaves-cut : {T : Type 0} {pace : Pace} {untouched : Type 0} (n : ℕ) (old new : SourceState) (before after : OutState) → FetchesAtMost n old new
    → HasRefused before.failures after.failures → Leaves {T = T} pace untouched old before (Err Out) new after
Leaves-cut n old new before after fetches refused =
    record { good = λ file good. tt; behind = tt; reads = record { cause = tt; fetches = record { count = n; fetches = fetches } }; out_cause = refused }

-- a fault is not the answer that more is left
pub fault-more : {P : Type 0} (f : ToolFault) → Err f ≡ Ok true → P
fault-more f more = absurd (cc)

-- nor is the end
pub end-more : {P : Type 0} (r : Result Bool ToolFault) → r ≡ Ok false → r ≡ Ok true → P
end-more r end more = absurd (cc)

-- one item fewer is left where an item was given, and a call aside leaves it so
pub IsBehindNext-aside : (u v w : ListerState) (x : Item) → NextStands u (Ok (Some x)) v → w ≡ record v { source = w.source; counts = w.counts } → (StandsInChosen u → IsInChosen v) → IsBehindNext u w
IsBehindNext-aside u v w x stands stays entry = record {
  left = ap (λ (l : ListerState). l.left) stays ∙ stands.left;
  going = ap (λ (l : ListerState). l.stop) stays ∙ stands.stop;
  falls = rw (ap (λ (l : ListerState). l.work) stays) stands.falls;
  stands = λ in_chosen more. subst IsInChosen (sym stays) (entry in_chosen);
}

-- ---- behind some fetches

pub cause_then : {T : Type 0} (n : ℕ) (a b c : SourceState) (r : Result T ToolFault) → FetchesAtMost n a b → HasSourceCause b r c → HasSourceCause a r c
cause_then n a b c (Ok x) fetches cause = tt
cause_then n a b c (Err (Source (Changed at))) fetches cause = sym fetches.same_content ∙ cause
cause_then n a b c (Err (Source (Failed at))) fetches cause = told_later (Failed at) n a b c fetches cause
cause_then n a b c (Err (Source (ShortRead at))) fetches cause = told_later (ShortRead at) n a b c fetches cause
cause_then n a b c (Err _) fetches cause = tt

pub Leaves-later : {T : Type 0} (n : ℕ) (a b c : SourceState) (before now after : OutState) (r : Result T ToolFault) → FetchesAtMost n a b
    → now.failures ≡ before.failures → Leaves up_to_a_fault ⊥ b now r c after → Leaves up_to_a_fault ⊥ a before r c after
Leaves-later n a b c before now after r fetches same left = record {
  good = λ file good. left.good file (record { known = fetches.same_content ∙ good.known; reliable = rw fetches.same_reliable good.reliable });
  behind = subst (λ (size : ℕ). IsBehind up_to_a_fault size r ⊥) fetches.same_size left.behind;
  reads = record {
    cause = cause_then n a b c r fetches left.reads.cause;
    fetches = record { count = n + left.reads.fetches.count; fetches = fetches_then _ _ _ _ _ fetches left.reads.fetches.fetches };
  };
  out_cause = cause_from now after before after r (sym same) refl left.out_cause;
}

-- what a `?` hands on
pub refused_by : {T : Type 0} (result : Result T ToolFault) (fault : ToolFault) → IsErrAnd result (λ told. told ≡ fault) → result ≡ Err fault
refused_by (Ok x) fault is = absurd is
refused_by (Err told) fault is = ap (λ (f : ToolFault). Err f) is

-- a fault ends a run as it ended the printing of an item
pub Leaves-fault : {T U : Type 0} (f : ToolFault) (old new : SourceState) (before after : OutState) → Leaves {T = T} up_to_a_fault ⊥ old before (Err f) new after
    → Leaves {T = U} up_to_a_fault ⊥ old before (Err f) new after
Leaves-fault (BadList fault) old new before after left =
    record { good = λ file good. tt; behind = left.behind; reads = record { cause = tt; fetches = left.reads.fetches }; out_cause = left.out_cause }
Leaves-fault (Source fault) old new before after left =
    record { good = left.good; behind = tt; reads = record { cause = left.reads.cause; fetches = left.reads.fetches }; out_cause = left.out_cause }
Leaves-fault (Budget offset size) old new before after left =
    record { good = λ file good. tt; behind = tt; reads = record { cause = tt; fetches = left.reads.fetches }; out_cause = left.out_cause }
Leaves-fault (AsideLimit offset size) old new before after left =
    record { good = λ file good. tt; behind = tt; reads = record { cause = tt; fetches = left.reads.fetches }; out_cause = left.out_cause }
Leaves-fault Out old new before after left =
    record { good = λ file good. tt; behind = tt; reads = record { cause = tt; fetches = left.reads.fetches }; out_cause = left.out_cause }
Leaves-fault _ old new before after left = absurd left.behind
