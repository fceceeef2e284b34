-- What the Stream item of an entry leaves of a walk.
use Rattle.std.proofs.Common.{◌≡◌, ◌+◌, ◌∙◌, ◌∷◌, ℕ, List, Some, Ok, arith, ap, get_or, refl, slice_get, subst, sym}
use Rattle.std.proofs.Math.Nat.{add-sub_cancel}
use Rattle.std.proofs.lemmas.Option.{slice_get_read}
use Rattle.mdmp_wire.specs.declared.entry.Entry.{Entry}
use Rattle.mdmp_lister.specs.declared.stage.Stage.TheVariants.{Head}
use Rattle.mdmp_lister.specs.declared.step.Step.{Step}
use Rattle.mdmp_lister.specs.declared.step.Step.TheVariants as step
use Rattle.mdmp_lister.specs.declared.walk.Walk.{Walk}
use Rattle.mdmp_lister.specs.Following.{goes_on}
use Rattle.mdmp_lister.specs.Format.Listing.{chosen_from, entry_of}
use Rattle.mdmp_lister.specs.Opening.{IsNextChosen}
use Rattle.mdmp_lister.specs.Walk.{IsSound, IsThrough, cursor_of}
use Rattle.mdmp_lister.specs.Walk.Checking.{EntryBegun}
use Rattle.mdmp_lister.specs.Walk.Paying.{stream_calls}
use Rattle.mdmp_lister.specs.Walk.Requests.{Answered, EntryTaken, StepTaken, standpoint_of}
use Rattle.mdmp_lister.proofs.Bodies.{listing_from-first}
use Rattle.mdmp_lister.proofs.Entries.{ranges-first}
use Rattle.mdmp_lister.proofs.Fetches.{FetchesAtMost-none, FetchesAtMost-within}
use Rattle.mdmp_lister.proofs.NextWalks.{past_paid, through-unbegun}
use Rattle.mdmp_lister.proofs.Requests.{Moves-none, goes_through, through-going, through-left, through-none}

module _ {S A : Type 0} (w : Walk S A) (at : ℕ) (e : Entry) where
  abbrev pub began : Walk S A
  began = record w { next = at + 1; current = e; stage = Head }

  abbrev pub stream : Step
  stream = step.Stream (record { entry = at; stream_type = e.stream_type; location = e.location })

  -- of the next chosen entry
  module _ (sound : IsSound w) (then : IsSound began) (through : IsThrough w.stage) (next : IsNextChosen w.choice w.next w.entries.items (Some at))
      (read : (d : Entry) → get_or w.entries.items at d ≡ e) where
    is_entry : (file : List ℕ) → w.meter.source.store.content ≡ Some file → e ≡ entry_of file at
    is_entry file known = sym (read e) ∙ (sound.directory file known).each at e next.within.1

    is_read : slice_get w.entries.items at ≡ Some e
    is_read = slice_get_read w.entries.items _ at e refl next.within.1 (sym (read e))

    stream_answered : Answered w (Ok (Some stream)) began
    stream_answered =
        let ok = w.entries.ok.0 in
        record {
          sound = then;
          same = record { header_is = refl; entries = refl; choice = refl; listed = refl; window = refl; name = refl };
          listing = λ file known.
              rw (add-sub_cancel at 1)
              (through-left w file through
              ∙ listing_from-first file w.choice w.name.limit w.next at e (next.first file (sound.directory file known)) (is_entry file known));
          given = record { held = (tt, tt); begins = refl; head = refl; falls = omega (arith, ok, next.within) };
          met = λ _. tt;
          stage = refl;
          passed = refl;
          current = refl;
          records = λ some. absurd (omega (arith, some, through-none w.stage through));
          follows = λ _.
              goes_on (goes_through w.choice w.entries.items w.meter.source.size w.name.limit (cursor_of w) w.stage (Ok (Some stream)) (cursor_of began) through
              (record { number = at; entry = e; first = next.stands e is_read; step_is = refl; stands = refl }));
          rests = omega (arith, ok, next.within);
          fetches = FetchesAtMost-within 0 _ w.meter.source w.meter.source (omega arith) (FetchesAtMost-none w.meter.source);
          counts = Moves-none 1 w.meter;
          spent = λ few. (omega arith, omega arith);
          named = omega arith;
          costs = past_paid (standpoint_of w) (through-unbegun w.stage through);
          paid = λ allowed before paid.
              let costs = rw (read e) at (next.costs (λ d. d) w.meter.source.size e) in
              let calls = rw (read e) at (next.costs (stream_calls w.window.room) w.meter.source.size e) in
              record { bytes = omega (arith, paid.bytes, costs); calls = omega (arith, paid.calls, calls); names = omega (arith, paid.names, ok, next.within) };
          repeats = λ stop stopped. let going = through-going w.stage through in absurd (cc);
          good = λ file good. tt;
        }

    stream_taken : StepTaken w (Ok (Some stream)) began
    stream_taken = record {
      answered = stream_answered;
      room = λ room has. record {
        ahead = omega (arith, has.ahead);
        owed = λ file known.
            let counts = ranges-first file w.choice w.next at e (next.first file (sound.directory file known)) (is_entry file known) in
            omega (arith, has.owed file known, counts);
      };
      unchanged = λ stays. tt;
      nameless = λ none. refl;
    }

    entry_begun : EntryBegun w began
    entry_begun = record {
      stage = refl;
      meter = refl;
      entry = rw (add-sub_cancel at 1) is_read;
      chosen = rw (add-sub_cancel at 1) (next.stands e is_read);
      first = λ file known.
          rw (add-sub_cancel at 1)
          (next.first file (sound.directory file known)
          ∙ ap (λ (x : Entry). record { number = at; entry = x } ∷ chosen_from file w.choice (at + 1)) (sym (is_entry file known)));
    }

module _ {S A : Type 0} (w new : Walk S A) (at : ℕ) (given : Step) (taken : EntryTaken at w given new) (sound : IsSound w) (through : IsThrough w.stage)
    (next : IsNextChosen w.choice w.next w.entries.items (Some at)) where
  pub chosen_taken : StepTaken w (Ok (Some given)) new
  chosen_taken =
      rw taken.step_is
      (subst (λ (n : Walk S A). StepTaken w (Ok (Some (stream w at new.current))) n) (sym taken.is)
      (stream_taken w at new.current sound (subst IsSound taken.is taken.sound) through next taken.entry))

  pub chosen_begun : EntryBegun w new
  chosen_begun =
      subst (λ (n : Walk S A). EntryBegun w n) (sym taken.is)
      (entry_begun w at new.current sound (subst IsSound taken.is taken.sound) through next taken.entry)
