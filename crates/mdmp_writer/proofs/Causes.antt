-- Why calls stop that stand one after the other, and what they spend together.
use Rattle.std.proofs.Common.{◌≡◌, ◌∙◌, ◌≤◌, ◌+◌, ℕ, Result, Ok, Err, Some, Bool, ap, arith, subst, refl}
use Rattle.std.specs.Prelude.{IsFalse, IsTrue, true, false}
use Rattle.std.specs.Result.{IfErr, IfOk, IsErrAnd, MatchResult}
use Rattle.mdmp_source.specs.Output.{OutState, refused_once}
use Rattle.mdmp_dump.specs.Shape.{Spent, ViewShape}
use Rattle.mdmp_dump.specs.declared.view.ViewFault.{ViewFault}
use Rattle.mdmp_writer.specs.declared.fault.WriteFault.{WriteFault}
use Rattle.mdmp_writer.specs.declared.fault.WriteFault.TheVariants.{Layout, Out, View}
use Rattle.mdmp_writer.specs.Cause.{HasCause, StopsAtOutput}
use Rattle.mdmp_writer.specs.Uses.{Used, Uses, used}

-- a call behind others that went well
pub cause_after : {T : Type 0} (r : Result T WriteFault) (a b c : OutState) (s t : Bool)
    → b.failures ≡ a.failures → t ≡ s → HasCause t r b c → HasCause s r a c
cause_after (Ok x) a b c s t same is cause = cause ∙ same
cause_after (Err Out) a b c s t same is cause = cause ∙ ap refused_once same
cause_after (Err (View fault)) a b c s t same is cause = (subst IsFalse is cause.0, cause.1 ∙ same)
cause_after (Err (Layout fault)) a b c s t same is cause = cause

-- one that stops only where the output refuses has this cause over any view
pub cause_of_output : {T : Type 0} (r : Result T WriteFault) (a b : OutState) (reliable : Bool) → StopsAtOutput r a b → HasCause reliable r a b
cause_of_output (Ok x) a b reliable stops = stops
cause_of_output (Err Out) a b reliable stops = stops
cause_of_output (Err (View fault)) a b reliable stops = absurd stops
cause_of_output (Err (Layout fault)) a b reliable stops = absurd stops

-- what a reliable view does not do
pub not_reliable : (reliable : Bool) → (IsTrue reliable → ⊥) → IsFalse reliable
not_reliable true never = absurd (never refl)
not_reliable false never = refl

-- what `map_err` makes of an answer of a view
abbrev pub IsPassed : {T : Type 0} → Result T ViewFault → Result T WriteFault → Type 0
IsPassed told result = MatchResult told (λ x. result ≡ Ok x) (λ fault. IsErrAnd result (λ e. e ≡ View fault))

pub ok_passed : {T : Type 0} {P Q : T → Type 0} (told : Result T ViewFault) (result : Result T WriteFault) → IsPassed told result → ((x : T) → P x → Q x) → IfOk told P → IfOk result Q
ok_passed (Ok x) result is then holds = rw is (then x holds)
ok_passed (Err e) (Ok x) is then holds = absurd is
ok_passed (Err e) (Err fault) is then holds = tt

pub told_ok : {T : Type 0} (told : Result T ViewFault) (x : T) → IsPassed told (Ok x) → told ≡ Ok x
told_ok (Ok y) x is = cc
told_ok (Err fault) x is = absurd is

-- a fault that a `?` hands on
pub handed : {T E : Type 0} (r : Result T E) (fault : E) → IsErrAnd r (λ told. told ≡ fault) → r ≡ Err fault
handed (Ok x) fault is = absurd is
handed (Err told) fault is = ap Err is

-- ---- what is used

pub uses_none : {a : Used} → Uses {T = Unit {0}} (Ok tt) a 0 0 a
uses_none = record { shape = refl; cause = refl; passed = omega arith; asked = omega arith; told = tt }

-- a step that uses no more than this
pub uses_within : {T : Type 0} {r : Result T WriteFault} {a b : Used} {n m passes asks : ℕ} → Uses r a n m b → n ≤ passes → m ≤ asks → Uses r a passes asks b
uses_within one all_passes all_asks = record {
  shape = one.shape;
  cause = one.cause;
  passed = omega (arith, one.passed, all_passes);
  asked = omega (arith, one.asked, all_asks);
  told = one.told;
}

-- steps that went well, and one behind them
pub uses_then : {T U : Type 0} {x : T} {r : Result U WriteFault} {a b c : Used} {n m p q passes asks : ℕ}
    → Uses (Ok x) a n m b → Uses r b p q c → n + p ≤ passes → m + q ≤ asks → Uses r a passes asks c
uses_then {r = r} {a = a} {b = b} {c = c} first next all_passes all_asks = record {
  shape = next.shape ∙ first.shape;
  cause = cause_after r a.out b.out c.out a.shape.is_reliable b.shape.is_reliable first.cause (ap (λ (s : ViewShape). s.is_reliable) first.shape) next.cause;
  passed = omega (arith, first.passed, next.passed, all_passes);
  asked = omega (arith, first.asked, next.asked, all_asks);
  told = next.told;
}

-- behind them one that stops only where the output refuses
pub uses_out : {T U : Type 0} {x : T} {r : Result U WriteFault} {a b : Used} {n m : ℕ} {o : OutState}
    → Uses (Ok x) a n m b → StopsAtOutput r b.out o → Uses r a n m (used b.shape b.spent o)
uses_out {r = Ok y} first stops = record { shape = first.shape; cause = stops ∙ first.cause; passed = first.passed; asked = first.asked; told = tt }
uses_out {r = Err Out} {o = o} first stops = record {
  shape = first.shape;
  cause = stops ∙ ap refused_once first.cause;
  passed = first.passed;
  asked = first.asked;
  told = tt;
}
uses_out {r = Err (View fault)} first stops = absurd stops
uses_out {r = Err (Layout fault)} first stops = absurd stops

-- one that went well
pub uses_sent : {T : Type 0} {x : T} {a b : Used} {n m : ℕ} {o : OutState} → Uses (Ok x) a n m b → o.failures ≡ b.out.failures → Uses (Ok x) a n m (used b.shape b.spent o)
uses_sent first same = record { shape = first.shape; cause = same ∙ first.cause; passed = first.passed; asked = first.asked; told = tt }

-- a call of the view of which nothing is spent
pub uses_asked : {T : Type 0} {x : T} {a b : Used} {n m : ℕ} {t : ViewShape} {q : Spent} → Uses (Ok x) a n m b → t ≡ b.shape → q ≡ b.spent → Uses (Ok x) a n m (used t q b.out)
uses_asked first shape spent = record {
  shape = shape ∙ first.shape;
  cause = first.cause;
  passed = omega (arith, first.passed, ap (λ (u : Spent). u.passed) spent);
  asked = omega (arith, first.asked, ap (λ (u : Spent). u.asked) spent);
  told = tt;
}

-- one that began a pass
pub uses_pass : {T : Type 0} {x : T} {a b : Used} {n m : ℕ} {t : ViewShape} {q : Spent} (cost : ℕ)
    → Uses (Ok x) a n m b → t ≡ b.shape → q.passed ≤ b.spent.passed + cost → q.asked ≤ b.spent.asked → Uses (Ok x) a (n + cost) m (used t q b.out)
uses_pass cost first shape passed asked = record {
  shape = shape ∙ first.shape;
  cause = first.cause;
  passed = omega (arith, first.passed, passed);
  asked = omega (arith, first.asked, asked);
  told = tt;
}

-- one that went well
pub uses_next : {T : Type 0} {x : T} {a b : Used} {n m : ℕ} {t : ViewShape} {q : Spent}
    → Uses (Ok x) a n m b → t ≡ b.shape → q.passed ≤ b.spent.passed → q.asked ≤ b.spent.asked → Uses (Ok x) a n m (used t q b.out)
uses_next first shape passed asked = uses_within (uses_pass 0 first shape (omega (arith, passed)) asked) (omega arith) (omega arith)

-- one that answered a fault
pub uses_fault : {T U : Type 0} {x : T} {a b : Used} {n m passes asks : ℕ} {t : ViewShape} {q : Spent} {fault : ViewFault}
    → Uses (Ok x) a n m b → t ≡ b.shape → (IsTrue b.shape.is_reliable → ⊥) → q.passed ≤ a.spent.passed + passes → q.asked ≤ a.spent.asked + asks → q.fault ≡ Some fault
    → Uses {T = U} (Err (View fault)) a passes asks (used t q b.out)
uses_fault {a = a} first shape never passed asked told = record {
  shape = shape ∙ first.shape;
  cause = (subst (λ (s : ViewShape). IsFalse s.is_reliable) first.shape (not_reliable _ never), first.cause);
  passed = passed;
  asked = asked;
  told = told;
}

-- a fault is one of any answer
pub uses_same : {T U : Type 0} {fault : WriteFault} {a b : Used} {n m : ℕ} → Uses {T = T} (Err fault) a n m b → Uses {T = U} (Err fault) a n m b
uses_same {fault = Out} one = record { shape = one.shape; cause = one.cause; passed = one.passed; asked = one.asked; told = tt }
uses_same {fault = View fault} one = record { shape = one.shape; cause = one.cause; passed = one.passed; asked = one.asked; told = one.told }
uses_same {fault = Layout fault} one = absurd one.cause

-- an answer of the view that `map_err` passed on
pub uses_passed : {T U : Type 0} {x : T} (told : Result U ViewFault) (result : Result U WriteFault) {a b : Used} {n m passes asks : ℕ} {t : ViewShape} {q : Spent}
    → IsPassed told result → Uses (Ok x) a n m b → t ≡ b.shape → (IsTrue b.shape.is_reliable → IfErr told (λ _. ⊥)) → q.passed ≤ a.spent.passed + passes → q.asked ≤ a.spent.asked + asks
    → IfErr told (λ fault. q.fault ≡ Some fault) → Uses result a passes asks (used t q b.out)
uses_passed (Ok y) result is first shape reliable passed asked last = rw is (record { shape = shape ∙ first.shape; cause = first.cause; passed = passed; asked = asked; told = tt })
uses_passed (Err fault) result is first shape reliable passed asked last = rw (handed result _ is) (uses_fault first shape reliable passed asked last)
