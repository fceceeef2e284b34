-- Parts that stand one behind the other, each padded.
use Rattle.std.proofs.Common.{◌≡◌, ◌+◌, ℕ, List, [], ◌∷◌, ◌++◌, get_or, length, refl, ap, sym, ◌∙◌, append_assoc, append-nil, arith, length-append}
use Rattle.mdmp_wire.specs.declared.slot.Slot.{Slot}
use Rattle.mdmp_wire.specs.declared.slot.Slot.TheVariants.{Empty}
use Rattle.mdmp_wire.specs.AnyRecord.{slots_of}
use Rattle.mdmp_wire.specs.Number.{le, zeros}
use Rattle.mdmp_wire.specs.NumberLaws.{length-le}
use Rattle.mdmp_dump.specs.declared.view.Fields.{Fields}
use Rattle.mdmp_dump.specs.Placed.{bytes_in, parts_by, seen_parts, size_at, slot_text}
use Rattle.mdmp_dump.specs.Seen.{Seen}
use Rattle.mdmp_writer.specs.Written.{all_padded, padded, padding, parts_of}

pub all_padded-append : (ps qs : List (List ℕ)) → all_padded (ps ++ qs) ≡ all_padded ps ++ all_padded qs
unfolding all_padded
all_padded-append [] qs = refl
all_padded-append (p ∷ ps) qs = rw (append_assoc (padded p) (all_padded ps) (all_padded qs)) (ap (λ t. padded p ++ t) (all_padded-append ps qs))

pub three_padded : (a b c : List ℕ) → all_padded (a ∷ b ∷ c ∷ []) ≡ padded a ++ padded b ++ padded c
unfolding all_padded
three_padded a b c = ap (λ (t : List ℕ). padded a ++ (padded b ++ t)) (append-nil (padded c)) ∙ sym (append_assoc (padded a) (padded b) (padded c))

-- ---- names

pub length-around : (n : ℕ) (b : List ℕ) → length b ≡ n → length (le 4 n ++ b ++ zeros 2) ≡ 4 + n + 2
length-around n b e = omega (arith, e, length-append (le 4 n ++ b) (zeros 2), length-append (le 4 n) b, length-le 4 n, length-le 2 0)

-- a name with its length, and its units with what stands behind them
pub around_units : (n : ℕ) (b : List ℕ) → length b ≡ n → le 4 n ++ (b ++ zeros 2 ++ padding (4 + n + 2)) ≡ padded (le 4 n ++ b ++ zeros 2)
around_units n b e =
    sym (append_assoc (le 4 n) (b ++ zeros 2) (padding (4 + n + 2)))
    ∙ ap (λ (x : List ℕ). x ++ padding (4 + n + 2)) (sym (append_assoc (le 4 n) b (zeros 2)))
    ∙ ap (λ (k : ℕ). le 4 n ++ b ++ zeros 2 ++ padding k) (sym (length-around n b e))

-- ---- the parts of a record, by its fields

-- a slot as it is written, of a record whose slots are these
abbrev pub text_at : List Slot → Seen → Fields → ℕ → List ℕ
text_at slots x f k = padded (slot_text (get_or slots k Empty) (size_at f k) (bytes_in x k))

pub fields_text : (slots : List Slot) (x : Seen) (f : Fields) → slots ≡ slots_of f.wire → x.fields ≡ f
    → all_padded (seen_parts x) ≡ text_at slots x f 0 ++ text_at slots x f 1 ++ text_at slots x f 2
fields_text slots x f are same =
    let text = λ (l : List Slot) (k : ℕ). slot_text (get_or l k Empty) (size_at f k) (bytes_in x k) in
    ap (λ (h : Fields). all_padded (parts_by h.wire (record x { fields = h }))) same
    ∙ ap (λ (l : List Slot). all_padded (text l 0 ∷ text l 1 ∷ text l 2 ∷ [])) (sym are)
    ∙ three_padded (text slots 0) (text slots 1) (text slots 2)

-- ---- the parts of records

pub parts_first : (x : Seen) (xs : List Seen) → all_padded (parts_of (x ∷ xs)) ≡ all_padded (seen_parts x) ++ all_padded (parts_of xs)
unfolding parts_of
parts_first x xs = all_padded-append (seen_parts x) (parts_of xs)

pub parts_none : all_padded (parts_of []) ≡ []
unfolding all_padded parts_of
parts_none = refl
