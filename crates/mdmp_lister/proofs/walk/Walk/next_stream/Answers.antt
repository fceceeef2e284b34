use Rattle.std.proofs.Common.{◌≡◌, ◌≤◌, ◌∙◌, [], None, Ok, length, arith, ap, refl, rules}
use Rattle.std.specs.Prelude.{map}
use Rattle.mdmp_lister.specs.Format.Listing.{all_joined, chosen_from, entry_count, entry_listing, nothing}
use Rattle.mdmp_lister.specs.Following.{goes_on}
use Rattle.mdmp_lister.specs.HeldStep.{step_told}
use Rattle.mdmp_lister.specs.Walk.{cursor_of, rest_of}
use Rattle.mdmp_lister.specs.Walk.Paying.{stream_calls}
use Rattle.mdmp_lister.specs.Walk.Requests.{standpoint_of}
use Rattle.mdmp_lister.proofs.Beginning.{chosen_begun, chosen_taken}
use Rattle.mdmp_lister.proofs.Entries.{chosen_from-end, listing_from-end}
use Rattle.mdmp_lister.proofs.Fetches.{FetchesAtMost-none, FetchesAtMost-within}
use Rattle.mdmp_lister.proofs.Listed.{cost_by-end}
use Rattle.mdmp_lister.proofs.NextWalks.{past_paid, through-unbegun}
use Rattle.mdmp_lister.proofs.Requests.{Moves-none, goes_through, through-going, through-left, through-none}
use Rattle.mdmp_lister.proofs.walk.Walk.next_stream.Goals as goal

pub returns-in_default : goal.returns-in_default
returns-in_default g c =
    let w = c.args.self.now in
    let ok = w.entries.ok.0 in
    let past : length w.entries.items ≤ c.len-self.result = omega (arith, ok, c.len-self.ensures) in
    record {
      whole = tt;
      taken = record {
        answered =
            record {
              sound = search rules;
              same = search rules;
              listing = λ file known.
                  let directory = c.requires.sound.directory file known in
                  let none : chosen_from file w.choice w.next ≡ [] = c.in_default.ensures.first file (rw c.deref.ensures.value directory) in
                  let given : rest_of w file ≡ nothing = ap (λ xs. all_joined (map (entry_listing file w.name.limit) xs)) none in
                  (through-left w file c.requires.through ∙ given, listing_from-end file w.choice w.name.limit c.len-self.result (omega (arith, past, directory.count)));
              given = tt;
              met = λ _. tt;
              stage = refl;
              passed = tt;
              current = refl;
              records = through-none w.stage c.requires.through;
              follows = λ _.
                  let none = rw c.deref.ensures.value at c.in_default.ensures.stands in
                  goes_on (goes_through w.choice w.entries.items w.meter.source.size w.name.limit (cursor_of w) w.stage (Ok None) _ c.requires.through (none, refl));
              rests = omega (arith, c.len-self.ensures);
              fetches = FetchesAtMost-within 0 _ w.meter.source w.meter.source (omega arith) (FetchesAtMost-none w.meter.source);
              counts = Moves-none 1 w.meter;
              spent = λ few. (omega arith, omega arith);
              named = omega arith;
              costs = past_paid (standpoint_of w) (through-unbegun w.stage c.requires.through);
              paid = λ allowed before paid. record {
                bytes = rw (cost_by-end (λ d. d) w.choice w.meter.source.size c.len-self.result w.entries.items past) (omega (arith, paid.bytes));
                calls = rw (cost_by-end (stream_calls w.window.room) w.choice w.meter.source.size c.len-self.result w.entries.items past) (omega (arith, paid.calls));
                names = omega (arith, paid.names, c.len-self.ensures);
              };
              repeats = λ stop stopped. let going = through-going w.stage c.requires.through in absurd (cc);
              good = λ file good. tt;
            };
        room = λ room has. record {
          ahead = omega (arith, has.ahead);
          owed = λ file known.
              let directory = c.requires.sound.directory file known in
              let over : entry_count file ≤ c.len-self.result = omega (arith, ok, c.len-self.ensures, directory.count) in
              rw (chosen_from-end file w.choice c.len-self.result over) (omega arith);
        };
        unchanged = λ stays. tt;
        nameless = λ none. refl;
      };
      begins = record {
        stage = refl;
        meter = refl;
        none_chosen = rw c.deref.ensures.value at c.in_default.ensures.stands;
        none = λ file known. c.in_default.ensures.first file (rw c.deref.ensures.value (c.requires.sound.directory file known));
      };
    }

pub returns : goal.returns
returns g c =
    let w = c.args.self.now in
    let n = c.begin_entry.new.self in
    let begun = c.begin_entry.ensures in
    let given = step_told n.window.held c.begin_entry.result in
    let next = rw c.deref.ensures.value at c.in-Some.ensures in
    record {
      taken = chosen_taken w n c.in-Some.at given begun.taken c.requires.sound c.requires.through next;
      whole = begun.whole;
      begins = chosen_begun w n c.in-Some.at given begun.taken c.requires.sound c.requires.through next;
    }
