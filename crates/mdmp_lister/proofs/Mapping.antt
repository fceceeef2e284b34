-- The map of the ranges that a walk gave, one step longer.
use Rattle.std.proofs.Common.{◌≡◌, ◌≤◌, ◌+◌, ◌-◌, ◌*◌, ◌^◌, ◌∙◌, ◌++◌, ◌∷◌, [], arith, refl, sym, ap, ℕ, List, Option, Some, None, length, vec_len}
use Rattle.std.specs.Prelude.{All, IfSome, filter_map}
use Rattle.std.proofs.lemmas.List.{append_assoc, length-append}
use Rattle.std.proofs.lemmas.List.Elements.{All-append, All-nil, All-cons, filter_map-append}
use Rattle.mdmp_source.specs.declared.location.Extent.{Extent}
use Rattle.mdmp_source.specs.declared.location.Extent.TheVariants.{Inside}
use Rattle.mdmp_map.specs.declared.range.Range.{Range}
use Rattle.mdmp_map.specs.Map.{MapState, free_of}
use Rattle.mdmp_map.specs.Ranges.{IsWithin}
use Rattle.mdmp_lister.specs.declared.item.Item.{Item}
use Rattle.mdmp_lister.specs.declared.item.RangeItem.{RangeItem}
use Rattle.mdmp_lister.specs.declared.step.Step.{Step}
use Rattle.mdmp_lister.specs.declared.step.Step.TheVariants as step
use Rattle.mdmp_lister.specs.declared.walk.Walk.{Walk}
use Rattle.mdmp_lister.specs.Format.Item.{plain}
use Rattle.mdmp_lister.specs.Walk.Paying.{IsBounded}
use Rattle.mdmp_lister.specs.Walk.Mapping.{IsMapped}
use Rattle.mdmp_lister.specs.Walk.Owing.{HasRoom, count_told}
use Rattle.mdmp_lister.specs.Format.Ranges.{IsPlacedIn, IsRangeIn, range_in, range_of, ranges_of}
use Rattle.mdmp_lister.specs.Step.{name_read, step_item}
use Rattle.mdmp_lister.specs.Format.Summary.{Summary, summary_of}
use Rattle.mdmp_lister.specs.Format.Numbers.{range_count}
use Rattle.mdmp_source.specs.Source.{FetchesAtMost}
use Rattle.mdmp_lister.specs.StreamHead.{heads_ahead}
use Rattle.mdmp_lister.specs.Walk.{IsSound, SameRoom}
use Rattle.mdmp_lister.proofs.Summary.{given, ranges_of-told, summary_of-item_of, summary_of-plain}

-- ---- the ranges of an item

pub ranges_of-plain : (x : Item) → ranges_of (plain x ∷ []) ≡ ranges_of (x ∷ [])
ranges_of-plain x = ap (λ (s : Summary). given s.range) (summary_of-plain x)

pub ranges_of-more : (old mid new : List Range) (xs : List Item) (x : Item) → mid ≡ old ++ ranges_of xs → new ≡ mid ++ ranges_of (x ∷ []) → new ≡ old ++ ranges_of (xs ++ plain x ∷ [])
ranges_of-more old mid new xs x so_far next =
    next ∙ rw (so_far, filter_map-append range_of xs (plain x ∷ []), ranges_of-plain x) (append_assoc old (ranges_of xs) (ranges_of (x ∷ [])))

pub ranges_of-step : (z : ℕ) (buffer : List ℕ) (s : Step) → length (ranges_of (step_item z buffer s ∷ [])) ≤ count_told s
ranges_of-step z buffer (step.Stream x) = omega arith
ranges_of-step z buffer (step.Record r) =
    rw (ap (λ (s : Summary). given s.range) (summary_of-item_of z r.entry r.index r.offset r.fields (name_read buffer r.name)))
    (ranges_of-told z r.entry r.index r.offset r.fields)

pub ranges-given : (z : ℕ) (buffer : List ℕ) (s : Step) (x : Item) → plain x ≡ step_item z buffer s → length (ranges_of (x ∷ [])) ≤ count_told s
ranges-given z buffer s x same =
    rw (sym (ranges_of-plain x) ∙ ap (λ (y : Item). ranges_of (y ∷ [])) same) (ranges_of-step z buffer s)

-- and where it is said to lie inside a file it does
within_by : (z : ℕ) (r : RangeItem) (e : Extent) → r.extent ≡ e → IsRangeIn z r → All (IsWithin z) (filter_map (range_in r) (e ∷ []))
within_by z r Inside is placed = All-cons (IsWithin z) _ [] (placed is).1.0 (All-nil (IsWithin z))
within_by z r _ is placed = All-nil (IsWithin z)

within_given : (z : ℕ) (range : Option RangeItem) → IfSome range (IsRangeIn z) → All (IsWithin z) (given range)
within_given z (Some r) placed = within_by z r r.extent refl placed
within_given z None placed = All-nil (IsWithin z)

pub ranges_of-within : (z : ℕ) (x : Item) → IsPlacedIn z x → All (IsWithin z) (ranges_of (x ∷ []))
ranges_of-within z x placed = within_given z (summary_of x).range placed

-- at offsets that fit
pub fits_by : (z : ℕ) (range : Option RangeItem) → IfSome range (IsRangeIn z) → IfSome range (IsRangeIn (2 ^ 64 - 1))
fits_by z (Some r) placed = λ inside. let parts = placed inside in (parts.0, (parts.1.1, parts.1.1))
fits_by z None placed = tt

-- ---- the map stays one of the walk

module _ {S A : Type 0} where
  -- of the same file with the same choice
  pub record IsSameFile (old new : Walk S A) : Type 0 where
    pub size : new.meter.source.size ≡ old.meter.source.size
    pub content : new.meter.source.store.content ≡ old.meter.source.store.content
    pub choice : new.choice ≡ old.choice
    pub entries : new.entries ≡ old.entries
    pub more : old.meter.fetched ≤ new.meter.fetched

  pub same_file : (n : ℕ) (old new : Walk S A) → FetchesAtMost n old.meter.source new.meter.source → SameRoom old new → old.meter.fetched ≤ new.meter.fetched → IsSameFile old new
  same_file n old new fetches same more = record { size = fetches.same_size; content = fetches.same_content; choice = same.choice; entries = same.entries; more = more }

  opened_then : (w new : Walk S A) → IsSameFile w new → 32 + 12 * vec_len w.entries + heads_ahead w.choice w.meter.source.size w.entries.items ≤ w.meter.fetched
      → 32 + 12 * vec_len new.entries + heads_ahead new.choice new.meter.source.size new.entries.items ≤ new.meter.fetched
  opened_then w new same opened = rw (same.size, same.choice, same.entries) (omega (arith, opened, same.more))

  counted_then : (w new : Walk S A) (room : ℕ) → IsSameFile w new → ((file : List ℕ) → w.meter.source.store.content ≡ Some file → room ≡ range_count file w.choice)
      → (file : List ℕ) → new.meter.source.store.content ≡ Some file → room ≡ range_count file new.choice
  counted_then w new room same counted file known = counted file (sym same.content ∙ known) ∙ ap (range_count file) (sym same.choice)

  -- where some ranges were given
  pub mapped : (w new : Walk S A) (map : MapState) (rs : List Range) (given : ℕ) → IsMapped w map → IsSound new → IsSameFile w new → HasRoom (free_of map) given new → IsBounded new
      → All (IsWithin w.meter.source.size) rs → length rs ≤ given → IsMapped new (record map { ranges = map.ranges ++ rs })
  mapped w new map rs given old sound same has bounded within few =
      let free = length-append map.ranges rs in
      record {
        sound = sound;
        room = record { ahead = omega (arith, has.ahead, few, free); owed = λ file known. omega (arith, has.owed file known, few, free) };
        inside = rw same.size (All-append (IsWithin w.meter.source.size) map.ranges rs old.inside within);
        bounded = bounded;
        opened = opened_then w new same old.opened;
        counted = counted_then w new map.room same old.counted;
      }

  -- where nothing was given
  pub kept : (w new : Walk S A) (map : MapState) → IsMapped w map → IsSound new → IsSameFile w new → HasRoom (free_of map) 0 new → IsBounded new → IsMapped new map
  kept w new map old sound same room bounded = record { sound = sound; room = room; inside = rw same.size old.inside; bounded = bounded; opened = opened_then w new same old.opened; counted = counted_then w new map.room same old.counted }
