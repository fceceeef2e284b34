-- Loops over the records that a view gives.
use Rattle.std.proofs.Common.{◌≡◌, ◌≤◌, ◌<◌, ℕ, suc, ◌+◌, ◌*◌, ◌^◌, List, [], ◌∷◌, ◌++◌, Option, Some, length, refl, ap, sym, subst, ◌∙◌, arith}
use Rattle.std.proofs.lemmas.List.{nil_from_length}
use Rattle.mdmp_dump.specs.declared.view.Fields.{Fields}
use Rattle.mdmp_dump.specs.declared.view.Kind.TheVariants.{Known}
use Rattle.mdmp_dump.specs.Placed.{far_room, fields_room}
use Rattle.mdmp_dump.specs.Seen.{Seen}
use Rattle.mdmp_dump.specs.Shape.{StreamCursor, GivesRecord, IsSized, TakesOff, is_far, row_of, type_told}
use Rattle.mdmp_writer.specs.Gather.{Gathered, IsLeft, Gathers, GathersPrefix}
use Rattle.mdmp_writer.specs.declared.record_texts.RecordText.{RecordText}
use Rattle.mdmp_writer.specs.declared.record_texts.RecordText.TheVariants.{Row, Parts, Memory}
use Rattle.mdmp_writer.specs.RecordTexts.{HaveText, bytes_asked, record_text, record_texts, text_size, texts_size}
use Rattle.mdmp_writer.specs.Written.{ranges_text, rows}
use Rattle.mdmp_writer.proofs.Padded.{parts_first, parts_none}
use Rattle.mdmp_writer.proofs.Sending.{left_begin, left_next, left_cut, left_stop, left_none}

-- the records that are left are known, so many, and P holds of them
pub record RestIs (left : Option (List Seen)) (count : ℕ) (P : List Seen → Type 0) : Type 0 where
  pub rest : List Seen
  pub known : left ≡ Some rest
  pub count_is : length rest ≡ count
  pub holds : P rest

-- of those records one was given, of these fields
pub record NextOf (new : StreamCursor) (f : Fields) (count : ℕ) (P : List Seen → Type 0) : Type 0 where
  pub first : Seen
  pub others : List Seen
  pub same : first.fields ≡ f
  pub sized : IsSized first
  pub known : new.seen ≡ Some others
  pub parts : new.parts ≡ Some first.parts
  pub count_is : length others + 1 ≡ count
  pub holds : P (first ∷ others)

pub next_of : (old new : StreamCursor) (f : Fields) (count : ℕ) (P : List Seen → Type 0) → RestIs old.seen count P → GivesRecord old f new → NextOf new f count P
next_of old new f count P r gives =
    let given = gives.seen r.rest r.known in
    record {
      first = given.first;
      others = given.others;
      same = given.fields;
      sized = given.sized;
      known = given.left;
      parts = given.parts;
      count_is = (let h : suc (length given.others) ≡ count = ap length (sym given.split) ∙ r.count_is in omega (arith, h));
      holds = subst P given.split r.holds;
    }

-- all are left
pub rest_begin : (a : Gathered) (text : List Seen → List ℕ) (xs : List Seen) (left : Option (List Seen)) (count : ℕ)
    → left ≡ Some xs → length xs ≡ count → RestIs left count (λ ys. IsLeft a (text xs) a (text ys))
rest_begin a text xs left count known len = record { rest = xs; known = known; count_is = len; holds = left_begin a (text xs) }

-- ---- what is left of a text

-- the text of these records is left of it
abbrev pub TextLeft : Gathered → List ℕ → Gathered → (List Seen → List ℕ) → List Seen → Type 0
TextLeft a text b of ys = IsLeft a text b (of ys)

-- that of the first of them goes first
module _ (a b c : Gathered) (text one rest : List ℕ) (of : List Seen → List ℕ) (new : StreamCursor) (f : Fields) (count : ℕ) (n : NextOf new f count (TextLeft a text b of)) (is : of (n.first ∷ n.others) ≡ one ++ rest) where
  text_left : IsLeft a text b (one ++ rest)
  text_left = subst (λ (t : List ℕ). IsLeft a text b t) is n.holds

  pub text_cut : GathersPrefix b one c → GathersPrefix a text c
  text_cut cut = left_cut a b c text one rest text_left cut

  pub text_put : (now : StreamCursor) (behind : List Seen → List ℕ) (left : ℕ) → behind n.others ≡ rest → count ≡ left + 1 → now.seen ≡ new.seen → Gathers b one c
      → RestIs now.seen left (TextLeft a text c behind)
  text_put now behind left same less stays put = record {
    rest = n.others;
    known = stays ∙ n.known;
    count_is = omega (arith, n.count_is, less);
    holds = subst (λ (t : List ℕ). IsLeft a text c t) (sym same) (left_next a b c text one rest text_left put);
  }

pub text_stop : (a b : Gathered) (text : List ℕ) (of : List Seen → List ℕ) (count : ℕ) (left : Option (List Seen)) → RestIs left count (TextLeft a text b of) → GathersPrefix a text b
text_stop a b text of count left r = left_stop a b text _ r.holds

pub text_done : (a b : Gathered) (text : List ℕ) (of : List Seen → List ℕ) (count : ℕ) (left : Option (List Seen)) → of [] ≡ [] → count ≡ 0
    → RestIs left count (TextLeft a text b of) → Gathers a text b
text_done a b text of count left none zero r = left_none a b text _ (ap of (nil_from_length r.rest (r.count_is ∙ zero)) ∙ none) r.holds

-- ---- what is written of each record

pub texts_first : (t : RecordText) (at : ℕ) (x : Seen) (xs : List Seen) → record_texts t at (x ∷ xs) ≡ record_text t at x ++ record_texts t (at + fields_room x.fields) xs
unfolding rows ranges_text
texts_first Row at x xs = refl
texts_first Parts at x xs = parts_first x xs
texts_first Memory at x xs = refl

pub texts_none : (t : RecordText) (at : ℕ) → record_texts t at [] ≡ []
unfolding rows ranges_text
texts_none Row at = refl
texts_none Parts at = parts_none
texts_none Memory at = refl

-- each takes off its bytes of those that are left
row_off : (n m size : ℕ) → n ≡ m + 1 → TakesOff (n * size) size (m * size) m
row_off n m size is = record { left = rw is (omega arith); last = λ none. rw none (omega arith) }

pub text_off : (t : RecordText) (old new : StreamCursor) (f : Fields) → HaveText t old.kind old.far → old.room < 2 ^ 32 → GivesRecord old f new
    → TakesOff (texts_size t old) (text_size t f) (texts_size t new) new.records
text_off Row old new f have low gives = rw (gives.stays, gives.kind) (row_off old.records new.records (row_of (type_told f.wire)) gives.records)
text_off Parts old new f have low gives = gives.room (omega (arith, low))
text_off Memory old new f have low gives = gives.far have.1

pub asked_off : (t : RecordText) (one left all : ℕ) → one + left ≤ all → bytes_asked t one + bytes_asked t left ≤ bytes_asked t all
asked_off Row one left all fit = omega arith
asked_off Parts one left all fit = fit
asked_off Memory one left all fit = fit

-- where all have such a text, each has one, and then the others
pub have_text : (t : RecordText) (old new : StreamCursor) (f : Fields) → HaveText t old.kind old.far → GivesRecord old f new
    → HaveText t (Known (type_told f.wire)) (far_room f) × HaveText t new.kind new.far
have_text Row old new f have gives = (tt, tt)
have_text Parts old new f have gives = (tt, tt)
have_text Memory old new f have gives =
    let off = (gives.far have.1).left in
    ((sym (ap is_far gives.kind) ∙ have.0, omega (arith, off, have.1)), (ap is_far gives.stays ∙ have.0, omega (arith, off, have.1)))
