-- Texts that are put one behind the other.
use Rattle.std.proofs.Common.{◌≡◌, ◌≤◌, ◌+◌, ◌-◌, ℕ, List, [], ◌++◌, Result, Ok, Err, length, take, drop, refl, ap, sym, subst, ◌∙◌, append_assoc, append-nil, Option}
use Rattle.std.proofs.lemmas.List.{take-append-drop, take_rest, drop-drop}
use Rattle.std.proofs.Math.ListN.{drop_of_length-le}
use Rattle.std.specs.Prelude.{OnOk}
use Rattle.std.proofs.Math.Seq.{take-add}
use Rattle.mdmp_source.specs.Output.{Takes, TakesPrefix}
use Rattle.mdmp_source.specs.OutputLaws.{Takes-nothing, Takes-Takes}
use Rattle.mdmp_writer.specs.Gather.{Gathered, Gathers, GathersPrefix, Writes, IsLeft}

pub puts_nothing : (a : Gathered) → Gathers a [] a
puts_nothing a = record { sent = []; whole = append-nil a.held; took = Takes-nothing a.taken }

pub puts_puts : (a b c : Gathered) (first next : List ℕ) → Gathers a first b → Gathers b next c → Gathers a (first ++ next) c
puts_puts a b c first next put more = record {
  sent = put.sent ++ more.sent;
  whole = sym (append_assoc a.held first next) ∙ ap (λ (x : List ℕ). x ++ next) put.whole ∙ append_assoc put.sent b.held next
      ∙ ap (λ (x : List ℕ). put.sent ++ x) more.whole ∙ sym (append_assoc put.sent more.sent c.held);
  took = Takes-Takes a.taken b.taken c.taken put.sent more.sent put.took more.took;
}

pub puts_all : (a b : Gathered) (text : List ℕ) → Gathers a text b → GathersPrefix a text b
puts_all a b text put = record { first = text; rest = []; splits = sym (append-nil text); puts = put }

-- a prefix of one text, behind another that was put, is a prefix of both with what follows
pub cut_within : (a b c : Gathered) (first next more : List ℕ) → Gathers a first b → GathersPrefix b next c → GathersPrefix a (first ++ (next ++ more)) c
cut_within a b c first next more put cut = record {
  first = first ++ cut.first;
  rest = cut.rest ++ more;
  splits = ap (λ (x : List ℕ). first ++ (x ++ more)) cut.splits ∙ ap (λ (x : List ℕ). first ++ x) (append_assoc cut.first cut.rest more) ∙ sym (append_assoc first cut.first (cut.rest ++ more));
  puts = puts_puts a b c first cut.first put cut.puts;
}

pub cut_behind : (a b c : Gathered) (first next : List ℕ) → Gathers a first b → GathersPrefix b next c → GathersPrefix a (first ++ next) c
cut_behind a b c first next put cut = subst (λ (x : List ℕ). GathersPrefix a (first ++ x) c) (append-nil next) (cut_within a b c first next [] put cut)

pub cut_before : (a b : Gathered) (first next : List ℕ) → GathersPrefix a first b → GathersPrefix a (first ++ next) b
cut_before a b first next cut = cut_within a a b [] first next (puts_nothing a) cut

-- a text, and then another
pub writes_then : {T E : Type 0} (r : Result T E) (a b c : Gathered) (first next : List ℕ) → Gathers a first b → Writes r b next c → Writes r a (first ++ next) c
writes_then (Ok x) a b c first next put more = puts_puts a b c first next put more
writes_then (Err e) a b c first next put cut = cut_behind a b c first next put cut

-- the same text in other words
pub writes_same : {T E : Type 0} (r : Result T E) (a b : Gathered) (text same : List ℕ) → same ≡ text → Writes r a text b → Writes r a same b
writes_same r a b text same e w = subst (λ (t : List ℕ). Writes r a t b) (sym e) w

pub cut_same : (a b : Gathered) (text same : List ℕ) → same ≡ text → GathersPrefix a text b → GathersPrefix a same b
cut_same a b text same e cut = subst (λ (t : List ℕ). GathersPrefix a t b) (sym e) cut

-- ---- what is left of a text

pub left_begin : (a : Gathered) (text : List ℕ) → IsLeft a text a text
left_begin a text = record { first = []; splits = refl; puts = puts_nothing a }

pub left_next : (a b c : Gathered) (text first rest : List ℕ) → IsLeft a text b (first ++ rest) → Gathers b first c → IsLeft a text c rest
left_next a b c text first rest l put = record {
  first = l.first ++ first;
  splits = l.splits ∙ sym (append_assoc l.first first rest);
  puts = puts_puts a b c l.first first l.puts put;
}

pub left_cut : (a b c : Gathered) (text first rest : List ℕ) → IsLeft a text b (first ++ rest) → GathersPrefix b first c → GathersPrefix a text c
left_cut a b c text first rest l cut =
    subst (λ (t : List ℕ). GathersPrefix a t c) (sym l.splits) (cut_within a b c l.first first rest l.puts cut)

pub left_stop : (a b : Gathered) (text rest : List ℕ) → IsLeft a text b rest → GathersPrefix a text b
left_stop a b text rest l = record { first = l.first; rest = rest; splits = l.splits; puts = l.puts }

pub left_none : (a b : Gathered) (text rest : List ℕ) → rest ≡ [] → IsLeft a text b rest → Gathers a text b
left_none a b text rest none l =
    subst (λ (t : List ℕ). Gathers a t b) (sym (l.splits ∙ ap (λ (r : List ℕ). l.first ++ r) none ∙ append-nil l.first)) l.puts

-- a piece of a text from a place on
pub piece_left : (a b : Gathered) (text part : List ℕ) (at n : ℕ) → IsLeft a text b (drop at part) → IsLeft a text b (take n (drop at part) ++ drop (at + n) part)
piece_left a b text part at n l =
    subst (λ (t : List ℕ). IsLeft a text b t) (sym (take-append-drop n (drop at part)) ∙ ap (λ (x : List ℕ). take n (drop at part) ++ x) (drop-drop n at part)) l

pub no_piece : (a b : Gathered) (text part : List ℕ) (at : ℕ) → length part ≤ at → IsLeft a text b (drop at part) → Gathers a text b
no_piece a b text part at past l = left_none a b text (drop at part) (drop_of_length-le part past) l

-- ---- what the buffer holds

abbrev pub holding : Option (List ℕ) → List ℕ → Gathered
holding taken held = record { taken = taken; held = held }

-- bytes that are held, and not yet sent
pub puts_held : (a : Option (List ℕ)) (held more : List ℕ) → Gathers (holding a held) more (holding a (held ++ more))
puts_held a held more = record { sent = []; whole = refl; took = Takes-nothing a }

-- the first n that were held went out
pub puts_sent : (a b : Option (List ℕ)) (held left : List ℕ) (n : ℕ) → Takes a (take n held) b → left ≡ drop n held → Gathers (holding a held) [] (holding b left)
puts_sent a b held left n took rest = record {
  sent = take n held;
  whole = append-nil held ∙ sym (take-append-drop n held) ∙ ap (λ (x : List ℕ). take n held ++ x) (sym rest);
  took = took;
}

-- a text, and what was held was sent
pub puts_flush : (a b c : Gathered) (text : List ℕ) → Gathers a text b → Gathers b [] c → Gathers a text c
puts_flush a b c text put flushed = subst (λ (x : List ℕ). Gathers a x c) (append-nil text) (puts_puts a b c text [] put flushed)

-- a text, and then more that is held
pub puts_hold : (a : Gathered) (b : Option (List ℕ)) (held new first more : List ℕ) → Gathers a first (holding b held) → new ≡ held ++ more → Gathers a (first ++ more) (holding b new)
puts_hold a b held new first more put holds = rw holds (puts_puts a (holding b held) (holding b (held ++ more)) first more put (puts_held b held more))

-- the first bytes of a text, and k more
pub puts_more : (a b : Gathered) (o : Option (List ℕ)) (held new text : List ℕ) (n k : ℕ) → Gathers a (take n text) b → Gathers b [] (holding o held)
    → new ≡ held ++ take k (take (length text - n) (drop n text)) → Gathers a (take (n + k) text) (holding o new)
puts_more a b o held new text n k put flushed more =
    let holds : new ≡ held ++ take k (drop n text) = rw take_rest at more in
    rw (take-add n k text) (puts_hold a o held new (take n text) (take k (drop n text)) (puts_flush a b (holding o held) (take n text) put flushed) holds)

-- the first n bytes of a text, and what was held was sent
pub cut_at : (a b c : Gathered) (text : List ℕ) (n : ℕ) → Gathers a (take n text) b → Gathers b [] c → GathersPrefix a text c
cut_at a b c text n put flushed = record {
  first = take n text;
  rest = drop n text;
  splits = sym (take-append-drop n text);
  puts = puts_flush a b c (take n text) put flushed;
}

-- nothing of a text, where no more is held
pub cut_none : (o : Option (List ℕ)) (held new text : List ℕ) → new ≡ held → GathersPrefix (holding o held) text (holding o new)
cut_none o held new text same = rw same (record { first = []; rest = text; splits = refl; puts = puts_nothing (holding o held) })

-- the first bytes of a text, and the k behind them
pub puts_piece : (a b c : Gathered) (text : List ℕ) (n k : ℕ) → Gathers a (take n text) b → Gathers b (take k (drop n text)) c → Gathers a (take (n + k) text) c
puts_piece a b c text n k put more = rw (take-add n k text) (puts_puts a b c (take n text) (take k (drop n text)) put more)

-- two facts of an answer, and what follows from them
pub on_ok : {T E P Q S : Type 0} (r : Result T E) → (P → Q → S) → OnOk r P → OnOk r Q → OnOk r S
on_ok (Ok x) f p q = f p q
on_ok (Err e) f p q = tt

-- ---- what went out

-- behind a buffer that held nothing, a text went out whole: nothing of it is held
pub sent_all : (a b : Gathered) (text : List ℕ) → a.held ≡ [] → b.held ≡ [] → Gathers a text b → Takes a.taken text b.taken
sent_all a b text none empty put =
    let whole : text ≡ put.sent = ap (λ (h : List ℕ). h ++ text) (sym none) ∙ put.whole ∙ ap (λ (h : List ℕ). put.sent ++ h) empty ∙ append-nil put.sent in
    subst (λ (t : List ℕ). Takes a.taken t b.taken) (sym whole) put.took

-- and of a first part of it a first part went out
pub sent_first : (a b : Gathered) (text : List ℕ) → a.held ≡ [] → GathersPrefix a text b → TakesPrefix a.taken text b.taken
sent_first a b text none cut = record {
  sent = cut.puts.sent;
  rest = b.held ++ cut.rest;
  whole = cut.splits ∙ ap (λ (t : List ℕ). t ++ cut.rest) (ap (λ (h : List ℕ). h ++ cut.first) (sym none) ∙ cut.puts.whole) ∙ append_assoc cut.puts.sent b.held cut.rest;
  took = cut.puts.took;
}
