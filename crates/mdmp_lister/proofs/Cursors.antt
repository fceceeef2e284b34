-- Where a listing stands in its directory: answers behind a head that was read before, and items one behind the other.
use Rattle.std.proofs.Common.{◌≡◌, ◌++◌, ◌∷◌, [], ℕ, List, Option, Some, None, Result, Ok, Err, append-nil, refl, subst, sym}
use Rattle.mdmp_wire.specs.declared.entry.Entry.{Entry}
use Rattle.mdmp_lister.specs.declared.choice.Choice.{Choice}
use Rattle.mdmp_lister.specs.declared.fault.Fault.{Fault}
use Rattle.mdmp_lister.specs.declared.fault.ListFault.{ListFault}
use Rattle.mdmp_lister.specs.declared.item.Item.{Item}
use Rattle.mdmp_lister.specs.declared.shape.Shape.{Shape}
use Rattle.mdmp_lister.specs.declared.step.Step.{Step}
use Rattle.mdmp_lister.specs.Following.{Cursor, Follows, GivesNextEntry, GivesNextRecord, GoesOn, IsBegun, IsReadOn, Standing, mapped, standing_by}
use Rattle.mdmp_lister.specs.Following as following
use Rattle.mdmp_lister.specs.Sink.{ComeNext, ComesNext}
use Rattle.mdmp_lister.specs.Walk.Checking.{MayCome}

-- how far the current entry was given counts only where it is told
entry_anywhere : (choice : Choice) (entries : List Entry) (z limit next : ℕ) (e : Entry) (was other : Standing) (result : Result (Option Step) ListFault) (d : Cursor)
    → GivesNextEntry choice entries z limit (record { passed = next; current = e; standing = was }) result d
    → GivesNextEntry choice entries z limit (record { passed = next; current = e; standing = other }) result d
entry_anywhere choice entries z limit next e was other (Ok None) d gives = gives
entry_anywhere choice entries z limit next e was other (Ok (Some s)) d gives = record { number = gives.number; entry = gives.entry; first = gives.first; step_is = gives.step_is; stands = gives.stands }
entry_anywhere choice entries z limit next e was other (Err f) d gives = gives

record_anywhere : (choice : Choice) (entries : List Entry) (z limit next given left offset : ℕ) (e : Entry) (was other : Standing) (result : Result (Option Step) ListFault) (d : Cursor)
    → GivesNextRecord choice entries z limit (record { passed = next; current = e; standing = was }) given left offset result d
    → GivesNextRecord choice entries z limit (record { passed = next; current = e; standing = other }) given left offset result d
record_anywhere choice entries z limit next given left offset e was other (Ok None) d gives = gives
record_anywhere choice entries z limit next given left offset e was other (Ok (Some s)) d gives = record { kind = gives.kind; kind_is = gives.kind_is; is = gives.is; stands = gives.stands }
record_anywhere choice entries z limit next given left offset e was other (Err f) d gives = record {
  kind = gives.kind;
  kind_is = gives.kind_is;
  fault = gives.fault;
  is = gives.is;
  meets = record { f = gives.meets.f; answer_is = gives.meets.answer_is; is = gives.meets.is; stands = gives.meets.stands };
}

goes_anywhere : (choice : Choice) (entries : List Entry) (z limit next : ℕ) (e : Entry) (was other s : Standing) (result : Result (Option Step) ListFault) (d : Cursor)
    → GoesOn choice entries z limit (record { passed = next; current = e; standing = was }) s result d
    → GoesOn choice entries z limit (record { passed = next; current = e; standing = other }) s result d
goes_anywhere choice entries z limit next e was other following.through result d goes = entry_anywhere choice entries z limit next e was other result d goes
goes_anywhere choice entries z limit next e was other following.begun result d goes = goes
goes_anywhere choice entries z limit next e was other (following.within given left offset) result d goes =
    (λ none. entry_anywhere choice entries z limit next e was other result d (goes.0 none), λ some. record_anywhere choice entries z limit next given left offset e was other result d (goes.1 some))

-- ---- the head of a stream

mapped_never : (r : Result Shape Fault) (offset : ℕ) (s : Standing) → Ok s ≡ mapped (standing_by offset) r → s ≡ following.begun → ⊥
mapped_never (Ok shape) offset s is at = absurd (cc)
mapped_never (Err fault) offset s is at = absurd (cc)

-- behind a head that was read it is not left to be read
begun_never : (z : ℕ) (e : Entry) (s : Standing) → IsBegun z e (Ok s) → s ≡ following.begun → ⊥
begun_never z e s (following.outside fault is bad) at = absurd (cc)
begun_never z e s (following.opaque whole none is) at = absurd (cc)
begun_never z e s (following.shaped whole kind of shape some offset is) at = mapped_never shape offset s is at

pub read_then : (z : ℕ) (c m d : Cursor) → IsReadOn z c m → IsReadOn z m d → IsReadOn z c d
read_then z c m d first (following.stays same) = subst (λ (n : Cursor). IsReadOn z c n) (sym same) first
read_then z c m d (following.stays same) (following.headed at is passed current) = subst (λ (n : Cursor). IsReadOn z n d) same (following.headed at is passed current)
read_then z c m d (following.headed was of passed current) (following.headed at is later other) = absurd (begun_never z c.current m.standing of at)

module _ (choice : Choice) (entries : List Entry) (z limit : ℕ) where
  -- what is answered behind it is answered before it
  pub follows_read : (c m : Cursor) (answer : Result (Option Step) ListFault) (d : Cursor) → IsReadOn z c m → Follows choice entries z limit m answer d
      → Follows choice entries z limit c answer d
  follows_read c m answer d (following.stays same) follows = subst (λ (n : Cursor). Follows choice entries z limit n answer d) same follows
  follows_read c m answer d (following.headed at is passed current) (following.goes_on goes) =
      following.begins at m.standing is
      (subst (λ (e : Entry). GoesOn choice entries z limit (record { passed = c.passed; current = e; standing = c.standing }) m.standing answer d) current
      (subst (λ next. GoesOn choice entries z limit (record { passed = next; current = m.current; standing = c.standing }) m.standing answer d) passed
      (goes_anywhere choice entries z limit m.passed m.current m.standing c.standing m.standing answer d goes)))
  follows_read c m answer d (following.headed at is passed current) (following.begins here s of goes) = absurd (begun_never z c.current m.standing is here)
  follows_read c m answer d (following.headed at is passed current) (following.refuses here fault of meets) = absurd (begun_never z c.current m.standing is here)

  -- ---- items one behind the other

  come_then : (c m d : Cursor) (xs ys : List Item) → ComeNext choice entries z limit c xs m → ComeNext choice entries z limit m ys d → ComeNext choice entries z limit c (xs ++ ys) d
  come_then c m d [] ys first then = subst (λ (n : Cursor). ComeNext choice entries z limit n ys d) first then
  come_then c m d (x ∷ xs) ys first then = (first.0, (first.1.0, come_then first.0 m d xs ys first.1.1 then))

  pub ComeNext-more : (c m d : Cursor) (xs : List Item) (x : Item) → ComeNext choice entries z limit c xs m → ComesNext choice entries z limit m x d
      → ComeNext choice entries z limit c (xs ++ x ∷ []) d
  ComeNext-more c m d xs x so_far next = come_then c m d xs (x ∷ []) so_far (d, (next, refl))

  pub may_none : (c : Cursor) → MayCome choice entries z limit c [] c
  may_none c = record { behind = c; come = refl; reads = following.stays refl }

  pub may_then : (c m d : Cursor) (xs ys : List Item) → MayCome choice entries z limit c xs m → MayCome choice entries z limit m ys d → MayCome choice entries z limit c (xs ++ ys) d
  may_then c m d xs [] first then = record {
    behind = first.behind;
    come = rw (append-nil xs) first.come;
    reads = read_then z first.behind m d first.reads (subst (λ (n : Cursor). IsReadOn z n d) then.come then.reads);
  }
  may_then c m d xs (y ∷ ys) first then =
      let next = then.come.1.0 in
      let comes : ComesNext choice entries z limit first.behind y then.come.0 = record {
        read = next.read;
        told = next.told;
        follows = follows_read first.behind m (Ok (Some next.read)) then.come.0 first.reads next.follows;
      } in
      record { behind = then.behind; come = come_then c first.behind then.behind xs (y ∷ ys) first.come (then.come.0, (comes, then.come.1.1)); reads = then.reads }
