-- A view of a file of unknown content, a record at a time.
use Rattle.std.proofs.Common.{◌≡◌, ◌∙◌, ◌≤◌, ◌<◌, ◌+◌, ◌-◌, ◌*◌, ◌^◌, ◌==◌, ℕ, zero, suc, List, [], ◌∷◌, length, map, get_or, refl, ap, sym, subst, arith, Bool, true, false, if◌then◌else◌}
use Rattle.std.proofs.lemmas.Bool.Decides.{nat_tests}
use Rattle.std.proofs.Math.ListN.{get_or-map}
use Rattle.std.specs.Prelude.{None}
use Rattle.mdmp_wire.specs.declared.any_record.AnyRecord.{AnyRecord}
use Rattle.mdmp_lister.specs.Format.Listing.{Numbered}
use Rattle.mdmp_dump.specs.declared.pass.Pass.{Pass}
use Rattle.mdmp_dump.specs.declared.found_record.FoundRecord.{FoundRecord}
use Rattle.mdmp_dump.specs.declared.found_record.PartAt.{PartAt}
use Rattle.mdmp_dump.specs.declared.view.Fields.{Fields}
use Rattle.mdmp_dump.specs.declared.view.Kind.{Kind}
use Rattle.mdmp_dump.specs.declared.view.Kind.TheVariants as kinds
use Rattle.mdmp_dump.specs.EntryWalk.{IsFoundIn, WalkState, chosen_entry, kind_by, no_entry, pass_cost, raw_size}
use Rattle.mdmp_dump.specs.FileView.{bytes_by, costs_in, first_pass, greatest, places_in, raw_by, stream_in, streams_in, unknown_cursor, unknown_shape}
use Rattle.mdmp_dump.specs.FoundRecord.{AreIn, IsPartIn, fields_of, no_part}
use Rattle.mdmp_dump.specs.Placed.{far_by, far_room, fields_bytes, fields_room, room_by, size_at, size_in}
use Rattle.mdmp_dump.specs.Shape.{StreamCursor, GivesRecord, StreamShape, TakesOff, begun, body_by, body_of, far_of, is_far, raw_sizes, room_of, stream_at, told, type_told, unused_shape}
use Rattle.mdmp_dump.proofs.Values.{HasOneRoom, one_room}

-- a record takes room in one way alone
far_alone : (w : AnyRecord) (f : Fields) → is_far (kinds.Known (type_told w)) ≡ false → far_by w f ≡ 0
far_alone w f near = subst (λ (far : Bool). HasOneRoom far w f) near (one_room w f)

near_alone : (w : AnyRecord) (f : Fields) → is_far (kinds.Known (type_told w)) ≡ true → room_by w f ≡ 0
near_alone w f far = subst (λ (b : Bool). HasOneRoom b w f) far (one_room w f)

-- what is left of a room that is told
left_by : Bool → ℕ → ℕ
left_by b n = if b then greatest else n

left_takes : (b : Bool) (room met more q left : ℕ) → (room == greatest) ≡ b → room ≤ greatest → met ≤ room → q ≤ room → q ≡ told (met + more) → (left ≡ 0 → q ≡ room)
    → left_by b (room - met) < 2 ^ 64 - 1 → TakesOff (left_by b (room - met)) more (left_by b (room - q)) left
unfolding left_by
left_takes true room met more q left is most old new sum last low = absurd (omega (arith, low))
left_takes false room met more q left is most old new sum last low =
    let under : room < greatest = grind (arith, nat_tests) in
    record { left = omega (arith, under, old, new, sum); last = λ none. omega (arith, last none) }

room_takes : (far : Bool) (room met near away q left : ℕ) → room ≤ greatest → met ≤ room → q ≤ room → q ≡ told (told (met + near) + away) → (left ≡ 0 → q ≡ room)
    → (far ≡ false → away ≡ 0) → (far ≡ true → near ≡ 0)
    → (if far then 0 else left_by (room == greatest) (room - met)) < 2 ^ 64 - 1
    → TakesOff (if far then 0 else left_by (room == greatest) (room - met)) near (if far then 0 else left_by (room == greatest) (room - q)) left
room_takes true room met near away q left most old new sum last one other low = record { left = omega (arith, other refl); last = λ none. refl }
room_takes false room met near away q left most old new sum last one other low =
    left_takes (room == greatest) room met near q left refl most old new (omega (arith, sum, one refl)) last low

far_takes : (far : Bool) (room met near away q left : ℕ) → room ≤ greatest → met ≤ room → q ≤ room → q ≡ told (told (met + near) + away) → (left ≡ 0 → q ≡ room)
    → (far ≡ false → away ≡ 0) → (far ≡ true → near ≡ 0)
    → (if far then left_by (room == greatest) (room - met) else 0) < 2 ^ 64 - 1
    → TakesOff (if far then left_by (room == greatest) (room - met) else 0) away (if far then left_by (room == greatest) (room - q) else 0) left
far_takes false room met near away q left most old new sum last one other low = record { left = omega (arith, one refl); last = λ none. refl }
far_takes true room met near away q left most old new sum last one other low =
    left_takes (room == greatest) room met away q left refl most old new (omega (arith, sum, other refl)) last low

bytes_take : (b : Bool) (room met near away q left count bytes : ℕ) → (room == greatest) ≡ b → room ≤ greatest → met ≤ room → q ≤ room → q ≡ told (told (met + near) + away)
    → bytes ≤ near + away → bytes ≤ 3 * 2 ^ 64 → count ≡ left + 1
    → bytes + (if b then left * (3 * 2 ^ 64) else room - q) ≤ (if b then count * (3 * 2 ^ 64) else room - met)
bytes_take true room met near away q left count bytes is most old new sum few small one = omega (arith, small, one)
bytes_take false room met near away q left count bytes is most old new sum few small one =
    let under : room < greatest = grind (arith, nat_tests) in
    omega (arith, under, old, new, sum, few)

sizes_are : (ps : List PartAt) (k : ℕ) → size_in (get_or ps k no_part).size ≡ size_in (get_or (map (λ p. p.size) ps) k no_part.size)
sizes_are ps k = ap size_in (sym (get_or-map (λ (p : PartAt). p.size) ps k no_part))

-- a record of such a part list has no more bytes than its parts can have
part_small : (size : ℕ) (p : PartAt) → size < 2 ^ 64 → IsPartIn size p.size p.at → size_in p.size ≤ 2 ^ 64
part_small size p most inside = by_size (size_in p.size) refl where
  by_size : (n : ℕ) → size_in p.size ≡ n → size_in p.size ≤ 2 ^ 64
  by_size zero is = omega (arith, is)
  by_size (suc n) is = (let h : p.at + size_in p.size ≤ size = inside (omega (arith, is)) in omega (arith, h, most))

fields_small : (size : ℕ) (ps : List PartAt) (w : AnyRecord) → size < 2 ^ 64 → AreIn size ps → fields_bytes (fields_of (record { wire = w; parts = ps })) ≤ 3 * 2 ^ 64
fields_small size ps w most inside =
    let at = λ (k : ℕ). sizes_are ps k in
    omega (arith, sizes_are ps 0, sizes_are ps 1, sizes_are ps 2, part_small size (get_or ps 0 no_part) most (inside.1 0), part_small size (get_or ps 1 no_part) most (inside.1 1), part_small size (get_or ps 2 no_part) most (inside.1 2))

-- a record that was taken is given
pub takes_record : (w v : WalkState) (p q : Pass) (f : FoundRecord) (g : Fields) → IsFoundIn w.source.size (chosen_entry w p.stream).entry.stream_type f → g ≡ fields_of f → v.chosen ≡ w.chosen
    → w.source.size < 2 ^ 64 → q.stream ≡ p.stream → q.rva ≡ p.rva → p.left ≡ q.left + 1 → q.room ≡ p.room → q.parts ≡ f.parts → p.room ≤ greatest → p.met ≤ p.room → q.met ≤ p.room
    → q.met ≡ told (told (p.met + fields_room g) + far_room g) → (q.left ≡ 0 → q.met ≡ p.room)
    → GivesRecord (unknown_cursor w p) g (unknown_cursor v q)
unfolding left_by
takes_record w v p q f g found same chosen size stream place one room parts most old new sum last =
    let is : kind_by (chosen_entry w p.stream).entry.stream_type ≡ kinds.Known (type_told g.wire) = found.kind_is ∙ ap (λ (h : Fields). kinds.Known (type_told h.wire)) (sym same) in
    let stays : kind_by (chosen_entry v q.stream).entry.stream_type ≡ kind_by (chosen_entry w p.stream).entry.stream_type =
    ap (λ (xs : List Numbered). kind_by (get_or xs q.stream no_entry).entry.stream_type) chosen ∙ ap (λ (k : ℕ). kind_by (chosen_entry w k).entry.stream_type) stream in
    let far = is_far (kinds.Known (type_told g.wire)) in
    let bytes : fields_bytes g ≤ fields_room g + far_room g = subst (λ (h : Fields). fields_bytes h ≤ fields_room h + far_room h) (sym same) found.bytes in
    let small : fields_bytes g ≤ 3 * 2 ^ 64 = subst (λ (h : Fields). fields_bytes h ≤ 3 * 2 ^ 64) (sym same) (fields_small w.source.size f.parts f.wire size found.inside) in
    rw (stays, is, room) record {
      kind = refl;
      stays = refl;
      records = one;
      room = room_takes far p.room p.met (fields_room g) (far_room g) q.met q.left most old new sum last (far_alone g.wire g) (near_alone g.wire g);
      far = far_takes far p.room p.met (fields_room g) (far_room g) q.met q.left most old new sum last (far_alone g.wire g) (near_alone g.wire g);
      bytes = bytes_take (p.room == greatest) p.room p.met (fields_room g) (far_room g) q.met q.left p.left (fields_bytes g) refl most old new sum bytes small one;
      sizes = λ k. ap (λ (ps : List PartAt). size_in (get_or ps k no_part).size) parts ∙ sizes_are f.parts k ∙ ap (λ (h : Fields). size_in (size_at h k)) (sym same);
      seen = λ xs known. absurd (let none = known in cc);
      at = place;
    }

-- ---- the streams

pub streams_count : (es : List Numbered) (ns rs : List ℕ) → length ns ≡ length es → length rs ≡ length es → length (streams_in es ns rs) ≡ length es
unfolding streams_in
streams_count [] ns rs n r = refl
streams_count (e ∷ es) [] rs n r = absurd (let h : 0 ≡ suc (length es) = n in omega (arith, h))
streams_count (e ∷ es) (n ∷ ns) [] m r = absurd (let h : 0 ≡ suc (length es) = r in omega (arith, h))
streams_count (e ∷ es) (n ∷ ns) (r ∷ rs) m k =
    ap suc (streams_count es ns rs (let h : suc (length ns) ≡ suc (length es) = m in omega (arith, h)) (let h : suc (length rs) ≡ suc (length es) = k in omega (arith, h)))

pub stream_is : (es : List Numbered) (ns rs : List ℕ) (k : ℕ) → length ns ≡ length es → length rs ≡ length es → k < length es
    → get_or (streams_in es ns rs) k unused_shape ≡ stream_in (get_or es k no_entry) (get_or ns k 0) (get_or rs k 0)
unfolding streams_in
stream_is [] ns rs k n r inside = absurd (let h : k < 0 = inside in omega (arith, h))
stream_is (e ∷ es) [] rs k n r inside = absurd (let h : 0 ≡ suc (length es) = n in omega (arith, h))
stream_is (e ∷ es) (n ∷ ns) [] k m r inside = absurd (let h : 0 ≡ suc (length es) = r in omega (arith, h))
stream_is (e ∷ es) (n ∷ ns) (r ∷ rs) zero m l inside = refl
stream_is (e ∷ es) (n ∷ ns) (r ∷ rs) (suc k) m l inside =
    stream_is es ns rs k (let h : suc (length ns) ≡ suc (length es) = m in omega (arith, h)) (let h : suc (length rs) ≡ suc (length es) = l in omega (arith, h))
    (let h : suc k < suc (length es) = inside in omega (arith, h))

pub cost_is : (es : List Numbered) (ns : List ℕ) (k : ℕ) → length ns ≡ length es → k < length es → get_or (costs_in es ns) k 0 ≡ pass_cost (get_or es k no_entry).entry (get_or ns k 0)
unfolding costs_in
cost_is [] ns k n inside = absurd (let h : k < 0 = inside in omega (arith, h))
cost_is (e ∷ es) [] k n inside = absurd (let h : 0 ≡ suc (length es) = n in omega (arith, h))
cost_is (e ∷ es) (n ∷ ns) zero m inside = refl
cost_is (e ∷ es) (n ∷ ns) (suc k) m inside =
    cost_is es ns k (let h : suc (length ns) ≡ suc (length es) = m in omega (arith, h)) (let h : suc k < suc (length es) = inside in omega (arith, h))

pub inside_streams : (es : List Numbered) (ns rs : List ℕ) (k : ℕ) → length ns ≡ length es → length rs ≡ length es → k < length (streams_in es ns rs) → k < length es
inside_streams es ns rs k n r inside = subst (λ (m : ℕ). k < m) (streams_count es ns rs n r) inside

-- ---- the sizes of bodies

told_is : (n : ℕ) → n ≤ 2 ^ 64 - 1 → n ≡ told n
told_is n fits = omega (arith, fits)

pub unused_body : (e : Numbered) (n r : ℕ) → kind_by e.entry.stream_type ≡ kinds.Unused → 0 ≡ told (body_of (stream_in e n r))
unused_body e n r is = ap (λ (o : Kind). told (body_by o n (raw_by o e.entry.location.size))) (sym is)

pub known_body : (e : Numbered) (t n r size : ℕ) → kind_by e.entry.stream_type ≡ kinds.Known t → size ≡ body_by (kinds.Known t) n 0 → size ≤ 2 ^ 64 - 1 → size ≡ told (body_of (stream_in e n r))
known_body e t n r size is same fits = told_is size fits ∙ ap told same ∙ ap (λ (o : Kind). told (body_by o n (raw_by o e.entry.location.size))) (sym is)

pub raw_body : (e : Numbered) (t n r size : ℕ) → kind_by e.entry.stream_type ≡ kinds.Raw t → size ≡ e.entry.location.size → size ≤ 2 ^ 64 - 1 → size ≡ told (body_of (stream_in e n r))
raw_body e t n r size is same fits = told_is size fits ∙ ap told same ∙ ap (λ (o : Kind). told (body_by o n (raw_by o e.entry.location.size))) (sym is)

pub parts_told : (r : ℕ) → r ≤ 2 ^ 64 - 1 → r ≡ told r
parts_told r fits = told_is r fits

-- ---- a stream that is begun

zero_sub : (r : ℕ) → r - 0 ≡ r
zero_sub r = omega arith

zero_left : (b : Bool) (r : ℕ) → (r == greatest) ≡ b → (if b then greatest else r - 0) ≡ r
zero_left true r is = (let e : r ≡ greatest = grind (arith, nat_tests) in sym e)
zero_left false r is = zero_sub r

raw_are : (kind : Kind) (size at j : ℕ) → size_in (get_or (record { size = raw_size kind size; at = at } ∷ no_part ∷ no_part ∷ []) j no_part).size ≡ raw_sizes (raw_by kind size) j
raw_are kinds.Unused size at zero = refl
raw_are (kinds.Known t) size at zero = refl
raw_are (kinds.Raw t) size at zero = refl
raw_are kind size at (suc zero) = refl
raw_are kind size at (suc (suc zero)) = refl
raw_are kind size at (suc (suc (suc j))) = refl

-- the cursor of a stream that is begun
cursor_of : StreamShape → ℕ → StreamCursor
cursor_of t at = record {
  kind = t.kind;
  records = t.records;
  room = room_of t;
  far = far_of t;
  bytes = t.bytes;
  seen = None;
  sizes = raw_sizes t.raw;
  parts = None;
  at = at;
}

fresh : (e : Numbered) (n r at : ℕ) (w : WalkState) (k rva : ℕ) → chosen_entry w k ≡ e
    → unknown_cursor w (record { stream = k; rva = rva; given = 0; left = n; room = r; met = 0; parts = record { size = raw_size (kind_by e.entry.stream_type) e.entry.location.size; at = at } ∷ no_part ∷ no_part ∷ [] })
    ≡ cursor_of (stream_in e n r) rva
unfolding cursor_of
fresh e n r at w k rva is =
    let kind = kind_by e.entry.stream_type in
    rw is (λ i. record {
      kind = kind;
      records = n;
      room = if is_far kind then 0 else zero_left (r == greatest) r refl i;
      far = if is_far kind then zero_left (r == greatest) r refl i else 0;
      bytes = bytes_by n r (zero_sub r i);
      seen = None;
      sizes = λ j. raw_are kind e.entry.location.size at j i;
      parts = None;
      at = rva;
    })

-- where the stream of an entry stands
pub place_is : (es : List Numbered) (k : ℕ) → (get_or es k no_entry).entry.location.rva ≡ get_or (places_in es) k 0
place_is es k = sym (get_or-map (λ (x : Numbered). x.entry.location.rva) es k no_entry)

pub begun_is : (w v : WalkState) (ns rs : List ℕ) (k n r : ℕ) → v.chosen ≡ w.chosen → length ns ≡ length w.chosen → length rs ≡ length w.chosen
    → k < length w.chosen → n ≡ get_or ns k 0 → r ≡ get_or rs k 0 → unknown_cursor v (first_pass w k n r) ≡ begun (unknown_shape w ns rs) k
unfolding cursor_of
begun_is w v ns rs k n r same nl rl inside count room =
    let e = chosen_entry w k in
    fresh e n r e.entry.location.rva v k e.entry.location.rva (ap (λ (es : List Numbered). get_or es k no_entry) same)
    ∙ ap (λ (t : StreamShape). cursor_of t e.entry.location.rva) (rw (count, room) (sym (stream_is w.chosen ns rs k nl rl inside)))
    ∙ ap (cursor_of (stream_at (unknown_shape w ns rs) k)) (place_is w.chosen k)

part_each : (part : PartAt) (whole : ℕ) → (0 < size_in part.size → part.at + size_in part.size ≤ whole) → (k : ℕ)
    → 0 < size_in (get_or (part ∷ no_part ∷ no_part ∷ []) k no_part).size
    → (get_or (part ∷ no_part ∷ no_part ∷ []) k no_part).at + size_in (get_or (part ∷ no_part ∷ no_part ∷ []) k no_part).size ≤ whole
part_each part whole first zero some = first some
part_each part whole first (suc zero) some = absurd (let h : 0 < 0 = some in omega (arith, h))
part_each part whole first (suc (suc zero)) some = absurd (let h : 0 < 0 = some in omega (arith, h))
part_each part whole first (suc (suc (suc k))) some = absurd (let h : 0 < 0 = some in omega (arith, h))

-- a pass that begins has its raw bytes inside the file
pub raw_parts : (part : PartAt) (whole : ℕ) → IsPartIn whole part.size part.at → AreIn whole (part ∷ no_part ∷ no_part ∷ [])
raw_parts part whole inside = (refl, part_each part whole inside)
