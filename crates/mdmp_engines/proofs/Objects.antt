-- What the visitors of a summary's object have printed.
use Rattle.std.proofs.Common.{◌≡◌, ◌∙◌, ℕ, List, [], ◌∷◌, ◌++◌, Bool, Option, Some, Result, ap, append_assoc, inl, inr, refl, subst, sym}
use Rattle.std.proofs.lemmas.List.{append-nil}
use Rattle.mdmp_source.specs.Output.{HasRefused, OutState, PutsAll, PutsPrefix, Refusals, TakesPrefix}
use Rattle.mdmp_source.specs.OutputLaws.{PutsAll-PutsAll, PutsAll-nothing, PutsPrefix-front, PutsPrefix-last, TakesPrefix-behind, TakesPrefix-front}
use Rattle.mdmp_source.specs.declared.fault.SourceFault.{SourceFault}
use Rattle.mdmp_lister.specs.declared.item.Item.{Item}
use Rattle.mdmp_lister.specs.declared.sink.Stopped.{Stopped}
use Rattle.mdmp_summary.specs.Visiting.{EndedAmong, EndedAt, Visited, VisitedAll}
use Rattle.mdmp_summary.specs.declared.visiting.VisitEnd.{VisitEnd}
use Rattle.mdmp_summary.specs.declared.visiting.VisitEnd.TheVariants as ends
use Rattle.mdmp_engines.specs.Engines.{StopsShort}
use Rattle.mdmp_engines.specs.ObjectVisits.{LooksModule, LooksThread, ModulesAt, TakesModule, TakesThread, ThreadsAt}
use Rattle.mdmp_engines.specs.SummaryObject.{CrashedThread, count_with, first_still, found_among, found_with, ids_of, module_begun, module_front, module_text, modules_text, thread_begun, thread_text, threads_text}

-- ---- a text that is cut

-- a first part of a text is one of more
cut_front : (before : Option (List ℕ)) (text more : List ℕ) (after : Option (List ℕ)) → TakesPrefix before text after → TakesPrefix before (text ++ more) after
cut_front before text more after cut = record {
  sent = cut.sent;
  rest = cut.rest ++ more;
  whole = ap (λ (t : List ℕ). t ++ more) cut.whole ∙ append_assoc cut.sent cut.rest more;
  took = cut.took;
}

pub short_front : (before : OutState) (text more : List ℕ) (after : OutState) → StopsShort before text after → StopsShort before (text ++ more) after
short_front before text more after short = record { took = cut_front before.taken text more after.taken short.took; steady = short.steady }

pub short_behind : (a b c : OutState) (first next : List ℕ) → PutsAll a first b → StopsShort b next c → StopsShort a (first ++ next) c
short_behind a b c first next put short = record {
  took = subst (λ (x : List ℕ). TakesPrefix a.taken (first ++ x) c.taken) (append-nil next) (TakesPrefix-behind a.taken b.taken c.taken first next [] put.took short.took);
  steady = short.steady ∙ put.steady;
}

pub short_put : (a b : OutState) (first more : List ℕ) → PutsAll a first b → StopsShort a (first ++ more) b
short_put a b first more put = record { took = TakesPrefix-front a.taken b.taken first more put.took; steady = put.steady }

-- ---- items, each of which puts a text by what came before it

module _ {T : Type 0} (text : T → Item → List ℕ) (next : T → Item → T) where
  abbrev pub texts_of : T → List Item → List ℕ
  texts_of t [] = []
  texts_of t (x ∷ xs) = text t x ++ texts_of (next t x) xs

  abbrev pub behind : T → List Item → T
  behind t [] = t
  behind t (x ∷ xs) = behind (next t x) xs

  pub texts_then : (t : T) (xs ys : List Item) → texts_of t (xs ++ ys) ≡ texts_of t xs ++ texts_of (behind t xs) ys
  texts_then t [] ys = refl
  texts_then t (x ∷ xs) ys = ap (λ (rest : List ℕ). text t x ++ rest) (texts_then (next t x) xs ys) ∙ sym (append_assoc (text t x) (texts_of (next t x) xs) (texts_of (behind (next t x) xs) ys))

  module _ {K : Type 0} (out : K → OutState) (of : K → T) (taken : K → Item → Result (Unit {0}) Stopped → K → Type 0) (looked : K → Result (Unit {0}) VisitEnd → K → Type 0)
      (one : (k : K) (x : Item) (m : K) → Visited taken looked k x m → PutsAll (out k) (text (of k) x) (out m) × (of m ≡ next (of k) x)) where
    pub put_all : (xs : List Item) (k l : K) → VisitedAll taken looked k xs l → PutsAll (out k) (texts_of (of k) xs) (out l) × (of l ≡ behind (of k) xs)
    put_all [] k l same = (rw same (PutsAll-nothing (out k)), ap of same)
    put_all (x ∷ xs) k l (m, (first, more)) =
        let put = one k x m first in
        let rest = put_all xs m l more in (
          PutsAll-PutsAll (out k) (out m) (out l) (text (of k) x) (texts_of (next (of k) x) xs) put.0 (subst (λ t. PutsAll (out m) (texts_of t xs) (out l)) put.1 rest.0),
          rest.1 ∙ ap (λ t. behind t xs) put.1,
        )

    module _ (stop : (k : K) (x : Item) (l : K) → EndedAt taken looked k x ends.Stopped l → PutsPrefix (out k) (text (of k) x) (out l))
        (short : (k : K) (x : Item) (f : SourceFault) (l : K) → EndedAt taken looked k x (ends.Source f) l → StopsShort (out k) (text (of k) x) (out l)) where
      one_text : (t : T) (x : Item) → texts_of t (x ∷ []) ≡ text t x
      one_text t x = append-nil (text t x)

      pub put_stopped : (xs : List Item) (k l : K) → EndedAmong taken looked ends.Stopped k xs l → PutsPrefix (out k) (texts_of (of k) xs) (out l)
      put_stopped xs k l ended =
          let so_far = put_all ended.before k ended.mid ended.visited in
          let last = subst (λ t. PutsPrefix (out ended.mid) (text t ended.last) (out l)) so_far.1 (stop ended.mid ended.last l ended.ended) in
          subst (λ (ys : List Item). PutsPrefix (out k) (texts_of (of k) ys) (out l)) (sym ended.is)
          (subst (λ (t : List ℕ). PutsPrefix (out k) t (out l)) (sym (texts_then (of k) ended.before (ended.last ∷ []) ∙ ap (λ (t : List ℕ). texts_of (of k) ended.before ++ t) (one_text (behind (of k) ended.before) ended.last)))
          (PutsPrefix-last (out k) (out ended.mid) (out l) (texts_of (of k) ended.before) (text (behind (of k) ended.before) ended.last) so_far.0 last))

      pub put_short : (xs : List Item) (f : SourceFault) (k l : K) → EndedAmong taken looked (ends.Source f) k xs l → StopsShort (out k) (texts_of (of k) xs) (out l)
      put_short xs f k l ended =
          let so_far = put_all ended.before k ended.mid ended.visited in
          let last = subst (λ t. StopsShort (out ended.mid) (text t ended.last) (out l)) so_far.1 (short ended.mid ended.last f l ended.ended) in
          subst (λ (ys : List Item). StopsShort (out k) (texts_of (of k) ys) (out l)) (sym ended.is)
          (subst (λ (t : List ℕ). StopsShort (out k) t (out l)) (sym (texts_then (of k) ended.before (ended.last ∷ []) ∙ ap (λ (t : List ℕ). texts_of (of k) ended.before ++ t) (one_text (behind (of k) ended.before) ended.last)))
          (short_behind (out k) (out ended.mid) (out l) (texts_of (of k) ended.before) (text (behind (of k) ended.before) ended.last) so_far.0 last))

-- ---- an output that refuses once, or never

module _ {K N : Type 0} (out : K → OutState) (name : K → N) (taken : K → Item → Result (Unit {0}) Stopped → K → Type 0) (looked : K → Result (Unit {0}) VisitEnd → K → Type 0)
    (one : (k : K) (x : Item) (m : K) → Visited taken looked k x m → ((out m).failures ≡ (out k).failures) × (name m ≡ name k)) where
  pub steady_all : (xs : List Item) (k l : K) → VisitedAll taken looked k xs l → ((out l).failures ≡ (out k).failures) × (name l ≡ name k)
  steady_all [] k l same = (ap (λ k. (out k).failures) same, ap name same)
  steady_all (x ∷ xs) k l (m, (first, more)) =
      let put = one k x m first in
      let rest = steady_all xs m l more in
      (rest.0 ∙ put.0, rest.1 ∙ put.1)

  pub refused_among : (stop : (k : K) (x : Item) (l : K) → EndedAt taken looked k x ends.Stopped l → HasRefused (out k).failures (out l).failures × (name l ≡ name k))
      → (xs : List Item) (k l : K) → EndedAmong taken looked ends.Stopped k xs l → HasRefused (out k).failures (out l).failures × (name l ≡ name k)
  refused_among stop xs k l ended =
      let so_far = steady_all ended.before k ended.mid ended.visited in
      let last = stop ended.mid ended.last l ended.ended in
      (subst (λ (r : Refusals). HasRefused r (out l).failures) so_far.0 last.0, last.1 ∙ so_far.1)

  pub steady_among : (short : (k : K) (x : Item) (f : SourceFault) (l : K) → EndedAt taken looked k x (ends.Source f) l → ((out l).failures ≡ (out k).failures) × (name l ≡ name k))
      → (xs : List Item) (f : SourceFault) (k l : K) → EndedAmong taken looked (ends.Source f) k xs l → ((out l).failures ≡ (out k).failures) × (name l ≡ name k)
  steady_among short xs f k l ended =
      let so_far = steady_all ended.before k ended.mid ended.visited in
      let last = short ended.mid ended.last f l ended.ended in
      (last.0 ∙ so_far.0, last.1 ∙ so_far.1)

-- ---- modules

pub record ModulesSeen : Type 0 where
  pub room : ℕ
  pub is_first : Bool

module _ {K N : Type 0} (at : K → ModulesAt) (name : K → N) (content : Option (List ℕ)) where
  abbrev pub module_taken : K → Item → Result (Unit {0}) Stopped → K → Type 0
  module_taken k x result l = (name l ≡ name k) × TakesModule (at k) x result (at l)

  abbrev pub module_looked : K → Result (Unit {0}) VisitEnd → K → Type 0
  module_looked k result l = (name l ≡ name k) × LooksModule content (at k) result (at l)

  abbrev pub modules_seen : K → ModulesSeen
  modules_seen k = record { room = (at k).room; is_first = (at k).is_first }

  pub module_steady : (k : K) (x : Item) (m : K) → Visited module_taken module_looked k x m → ((at m).out.failures ≡ (at k).out.failures) × (name m ≡ name k)
  module_steady k x m (n, ((same, (front, is)), (still, (done, (steady, puts))))) = (steady ∙ front.steady, still ∙ same)

  pub module_refused : (k : K) (x : Item) (l : K) → EndedAt module_taken module_looked k x ends.Stopped l → HasRefused (at k).out.failures (at l).out.failures × (name l ≡ name k)
  module_refused k x l (inl (same, cut)) = (cut.refused, same)
  module_refused k x l (inr (n, ((same, (front, is)), (still, (done, (refused, cut)))))) = (subst (λ (r : Refusals). HasRefused r (at l).out.failures) front.steady refused, still ∙ same)

  pub module_unread : (k : K) (x : Item) (f : SourceFault) (l : K) → EndedAt module_taken module_looked k x (ends.Source f) l → ((at l).out.failures ≡ (at k).out.failures) × (name l ≡ name k)
  module_unread k x f l (n, ((same, (front, is)), (still, (done, untouched)))) = (ap (λ (o : OutState). o.failures) untouched ∙ front.steady, still ∙ same)

  module _ (F : List ℕ) (known : content ≡ Some F) where
    abbrev pub module_put : ModulesSeen → Item → List ℕ
    module_put s x = module_text F s.room s.is_first x

    abbrev pub module_next : ModulesSeen → Item → ModulesSeen
    module_next s x = record { room = s.room; is_first = first_still s.is_first x }

    pub module_one : (k : K) (x : Item) (m : K) → Visited module_taken module_looked k x m → PutsAll (at k).out (module_put (modules_seen k) x) (at m).out × (modules_seen m ≡ module_next (modules_seen k) x)
    module_one k x m (n, ((same, (front, is)), (still, (done, (steady, puts))))) = (
      PutsAll-PutsAll (at k).out (at n).out (at m).out (module_front (at k).is_first x) (ids_of F (at k).room (module_begun x)) front
          (subst (λ (a : ModulesAt). PutsAll (at n).out (ids_of F a.room a.begun) (at m).out) is (puts F known)),
      (λ i. record { room = (done i).room; is_first = (done i).is_first }) ∙ (λ i. record { room = (is i).room; is_first = (is i).is_first }),
    )

    pub module_stop : (k : K) (x : Item) (l : K) → EndedAt module_taken module_looked k x ends.Stopped l → PutsPrefix (at k).out (module_put (modules_seen k) x) (at l).out
    module_stop k x l (inl (same, cut)) = PutsPrefix-front (at k).out (at l).out (module_front (at k).is_first x) (ids_of F (at k).room (module_begun x)) cut
    module_stop k x l (inr (n, ((same, (front, is)), (still, (done, (refused, cut)))))) =
        PutsPrefix-last (at k).out (at n).out (at l).out (module_front (at k).is_first x) (ids_of F (at k).room (module_begun x)) front
        (subst (λ (a : ModulesAt). PutsPrefix (at n).out (ids_of F a.room a.begun) (at l).out) is (cut F known))

    pub module_short : (k : K) (x : Item) (f : SourceFault) (l : K) → EndedAt module_taken module_looked k x (ends.Source f) l → StopsShort (at k).out (module_put (modules_seen k) x) (at l).out
    module_short k x f l (n, ((same, (front, is)), (still, (done, untouched)))) =
        short_put (at k).out (at l).out (module_front (at k).is_first x) (ids_of F (at k).room (module_begun x))
        (subst (λ (o : OutState). PutsAll (at k).out (module_front (at k).is_first x) o) (sym untouched) front)

abbrev pub put_module : List ℕ → ModulesSeen → Item → List ℕ
put_module F s x = module_text F s.room s.is_first x

abbrev pub next_module : ModulesSeen → Item → ModulesSeen
next_module s x = record { room = s.room; is_first = first_still s.is_first x }

pub modules_of : (F : List ℕ) (s : ModulesSeen) (xs : List Item) → texts_of (put_module F) next_module s xs ≡ modules_text F s.room s.is_first xs
modules_of F s [] = refl
modules_of F s (x ∷ xs) = ap (λ (t : List ℕ). put_module F s x ++ t) (modules_of F (next_module s x) xs)

-- ---- threads

pub record ThreadsSeen : Type 0 where
  pub crashed : CrashedThread
  pub count : ℕ

module _ {K N : Type 0} (at : K → ThreadsAt) (name : K → N) (content : Option (List ℕ)) where
  abbrev pub thread_taken : K → Item → Result (Unit {0}) Stopped → K → Type 0
  thread_taken k x result l = (name l ≡ name k) × TakesThread (at k) x result (at l)

  abbrev pub thread_looked : K → Result (Unit {0}) VisitEnd → K → Type 0
  thread_looked k result l = (name l ≡ name k) × LooksThread content (at k) result (at l)

  abbrev pub threads_seen : K → ThreadsSeen
  threads_seen k = record { crashed = (at k).crashed; count = (at k).count }

  pub thread_steady : (k : K) (x : Item) (m : K) → Visited thread_taken thread_looked k x m → ((at m).out.failures ≡ (at k).out.failures) × (name m ≡ name k)
  thread_steady k x m (n, ((same, (ok, is)), (still, (done, (steady, puts))))) = (steady ∙ (λ i. (is i).out.failures), still ∙ same)

  pub thread_refused : (k : K) (x : Item) (l : K) → EndedAt thread_taken thread_looked k x ends.Stopped l → HasRefused (at k).out.failures (at l).out.failures × (name l ≡ name k)
  thread_refused k x l (inl (same, (never, is))) = absurd (cc)
  thread_refused k x l (inr (n, ((same, (ok, is)), (still, (refused, cut))))) = (subst (λ (a : ThreadsAt). HasRefused a.out.failures (at l).out.failures) is refused, still ∙ same)

  pub thread_unread : (k : K) (x : Item) (f : SourceFault) (l : K) → EndedAt thread_taken thread_looked k x (ends.Source f) l → ((at l).out.failures ≡ (at k).out.failures) × (name l ≡ name k)
  thread_unread k x f l (n, ((same, (ok, is)), (still, untouched))) = (ap (λ (o : OutState). o.failures) untouched ∙ (λ i. (is i).out.failures), still ∙ same)

  -- the index of the thread of the crash
  pub found_all : (xs : List Item) (k l : K) → VisitedAll thread_taken thread_looked k xs l → (at l).found ≡ found_among (at k).crashed.id (at k).count (at k).found xs
  found_all [] k l same = ap (λ k. (at k).found) same
  found_all (x ∷ xs) k l (m, ((n, ((same, (ok, is)), (still, (done, put)))), more)) =
      found_all xs m l more
      ∙ (λ i. found_among (done i).crashed.id (done i).count (done i).found xs)
      ∙ (λ i. found_among (is i).crashed.id (count_with (is i).count (is i).begun) (found_with (is i).crashed.id (is i).count (is i).found (is i).begun) xs)

  module _ (F : List ℕ) (known : content ≡ Some F) where
    abbrev pub thread_put : ThreadsSeen → Item → List ℕ
    thread_put s x = thread_text F s.crashed s.count (thread_begun x)

    abbrev pub thread_next : ThreadsSeen → Item → ThreadsSeen
    thread_next s x = record { crashed = s.crashed; count = count_with s.count (thread_begun x) }

    pub thread_one : (k : K) (x : Item) (m : K) → Visited thread_taken thread_looked k x m → PutsAll (at k).out (thread_put (threads_seen k) x) (at m).out × (threads_seen m ≡ thread_next (threads_seen k) x)
    thread_one k x m (n, ((same, (ok, is)), (still, (done, (steady, puts))))) = (
      subst (λ (a : ThreadsAt). PutsAll a.out (thread_text F a.crashed a.count a.begun) (at m).out) is (puts F known),
      (λ i. record { crashed = (done i).crashed; count = (done i).count }) ∙ (λ i. record { crashed = (is i).crashed; count = count_with (is i).count (is i).begun }),
    )

    pub thread_stop : (k : K) (x : Item) (l : K) → EndedAt thread_taken thread_looked k x ends.Stopped l → PutsPrefix (at k).out (thread_put (threads_seen k) x) (at l).out
    thread_stop k x l (inl (same, (never, is))) = absurd (cc)
    thread_stop k x l (inr (n, ((same, (ok, is)), (still, (refused, cut))))) = subst (λ (a : ThreadsAt). PutsPrefix a.out (thread_text F a.crashed a.count a.begun) (at l).out) is (cut F known)

    pub thread_short : (k : K) (x : Item) (f : SourceFault) (l : K) → EndedAt thread_taken thread_looked k x (ends.Source f) l → StopsShort (at k).out (thread_put (threads_seen k) x) (at l).out
    thread_short k x f l (n, ((same, (ok, is)), (still, untouched))) =
        short_put (at k).out (at l).out [] (thread_put (threads_seen k) x) (subst (λ (o : OutState). PutsAll (at k).out [] o) (sym (untouched ∙ (λ i. (is i).out))) (PutsAll-nothing (at k).out))

abbrev pub put_thread : List ℕ → ThreadsSeen → Item → List ℕ
put_thread F s x = thread_text F s.crashed s.count (thread_begun x)

abbrev pub next_thread : ThreadsSeen → Item → ThreadsSeen
next_thread s x = record { crashed = s.crashed; count = count_with s.count (thread_begun x) }

pub threads_of : (F : List ℕ) (s : ThreadsSeen) (xs : List Item) → texts_of (put_thread F) next_thread s xs ≡ threads_text F s.crashed s.count xs
threads_of F s [] = refl
threads_of F s (x ∷ xs) = ap (λ (t : List ℕ). put_thread F s x ++ t) (threads_of F (next_thread s x) xs)
