-- A record that is taken of a pass over a stream.
use Rattle.std.proofs.Common.{◌≡◌, ◌∙◌, ◌≤◌, ◌<◌, ◌+◌, ◌^◌, ℕ, suc, List, [], length, get_or, Option, Some, None, Ok, ap, arith, subst, sym}
use Rattle.mdmp_source.specs.Store.{IsOfBytes}
use Rattle.mdmp_lister.specs.Format.Listing.{Numbered}
use Rattle.mdmp_dump.specs.declared.dump.Stream.{Stream}
use Rattle.mdmp_dump.specs.declared.pass.Pass.{Pass}
use Rattle.mdmp_dump.specs.declared.found_record.FoundRecord.{FoundRecord}
use Rattle.mdmp_dump.specs.declared.view.Fields.{Fields}
use Rattle.mdmp_dump.specs.EntryWalk.{FindsRow, GivesNext, WalkState, chosen_entry, no_entry}
use Rattle.mdmp_dump.specs.FileView.{IsPass, IsPassOf, cursor_by, greatest, met_told, pass_cursor, room_told, stream_of}
use Rattle.mdmp_dump.specs.FoundRecord.{fields_of}
use Rattle.mdmp_dump.specs.InFile.{stream_named}
use Rattle.mdmp_dump.specs.Placed.{far_room, fields_room}
use Rattle.mdmp_dump.specs.Shape.{StreamCursor, GivesRecord, parts_at, seen_record, sizes_at, told, value_cursor}
use Rattle.mdmp_dump.specs.View.{kind_in, records_seen}
use Rattle.mdmp_dump.proofs.FaultsTold.{next_row}
use Rattle.mdmp_dump.proofs.FileViews.{takes_record}
use Rattle.mdmp_dump.proofs.KnownViews.{by_content}
use Rattle.mdmp_dump.proofs.Refusals.{row_passed}
use Rattle.mdmp_dump.proofs.Values.{value_next}
use Rattle.mdmp_dump.proofs.Viewed.{records_are, rooms_all, rooms_step, rooms_within, row_seen, sizes_are}

-- a record is given of a stream wherever that stands
gives_at : {old new : StreamCursor} {f : Fields} (at now : ℕ) → now ≡ at → GivesRecord old f new → GivesRecord (record old { at = at }) f (record new { at = now })
gives_at at now same gives = record {
  kind = gives.kind;
  stays = gives.stays;
  records = gives.records;
  room = gives.room;
  far = gives.far;
  bytes = gives.bytes;
  sizes = gives.sizes;
  seen = λ xs known.
      let is = gives.seen xs known in
      record { first = is.first; others = is.others; split = is.split; fields = is.fields; sized = is.sized; left = is.left; parts = is.parts };
  at = same;
}

module _ (Z : Type 0) (w v : WalkState) (limit : ℕ) (p : Pass) (passing : IsPass w p) (going : 0 < p.left) (unfailed : w.failed ≡ None)
    (of_file : (F : List ℕ) → w.source.store.content ≡ Some F → IsPassOf Z F limit w p) (bytes : IsOfBytes w.source.store.content)
    (f : FoundRecord) (gives : GivesNext w limit (Ok f) v) (g : Fields) (same : g ≡ fields_of f) (met : ℕ) (sum : met ≡ told (told (p.met + fields_room g) + far_room g)) where
  -- ---- of known content

  module _ (F : List ℕ) (known : w.source.store.content ≡ Some F) where
    abbrev seen : Stream Z
    seen = stream_of {Z = Z} F w p.stream

    pass : IsPassOf Z F limit w p
    pass = of_file F known

    row : FindsRow F limit (chosen_entry w p.stream) p.given (Ok f)
    row = next_row Z w v limit p passing going unfailed of_file (Ok f) gives F known

    fields : g ≡ (seen_record seen p.given).fields
    fields = same ∙ (row_seen Z F (chosen_entry w p.stream) (p.given + p.left) pass.counted limit p.given f row).fields

    inside : p.given < length (records_seen seen)
    inside = omega (arith, going, records_are Z F (chosen_entry w p.stream) (p.given + p.left) pass.counted)

    met_is : met ≡ met_told seen (p.given + 1)
    met_is = rooms_step Z F (chosen_entry w p.stream) (p.given + p.left) pass.counted p.given p.met met (omega (arith, going)) pass.met
        (subst (λ (h : Fields). met ≡ told (told (p.met + fields_room h) + far_room h)) fields sum)

    pub met_within : met ≤ p.room
    met_within = (let h = rooms_within (kind_in seen) (records_seen seen) (p.given + 1) in omega (arith, met_is, h, pass.room))

    pub met_whole : p.left ≡ 1 → met ≡ p.room
    met_whole last = met_is ∙ ap told (rooms_all (kind_in seen) (records_seen seen) (p.given + 1) (omega (arith, last, records_are Z F (chosen_entry w p.stream) (p.given + p.left) pass.counted))) ∙ sym pass.room

  -- ---- the pass behind it

  module _ (q : Pass) (stream : q.stream ≡ p.stream) (place : q.rva ≡ p.rva) (given : q.given ≡ p.given + 1) (left : p.left ≡ q.left + 1) (room : q.room ≡ p.room) (parts : q.parts ≡ f.parts) (met_same : q.met ≡ met) where
    entry_same : chosen_entry v q.stream ≡ chosen_entry w p.stream
    entry_same = ap (λ (xs : List Numbered). get_or xs q.stream no_entry) gives.pays.same.chosen ∙ ap (chosen_entry w) stream

    seen_same : (F : List ℕ) → stream_of {Z = Z} F v q.stream ≡ stream_of {Z = Z} F w p.stream
    seen_same F = ap (λ (x : Numbered). stream_named {Z = Z} F x.entry) entry_same

    pub pass_behind : (F : List ℕ) → w.source.store.content ≡ Some F → IsPassOf Z F limit v q
    pass_behind F known =
        let x = chosen_entry w p.stream in
        let n = p.given + p.left in
        let is = pass F known in
        let n_same : p.given + p.left ≡ q.given + q.left = omega (arith, given, left) in
        let one : p.given + 1 ≡ suc p.given = omega arith in
        record {
          quiet = rw (entry_same, given) (sym (row_passed F limit x n is.counted p.given f (row F known)) ∙ is.quiet);
          counted = rw (entry_same, ← n_same) is.counted;
          room = room ∙ is.room ∙ ap room_told (sym (seen_same F));
          met = met_same ∙ met_is F known ∙ (λ i. met_told (sym (seen_same F) i) (sym given i));
          parts = λ j.
              rw (parts, given, seen_same F)
              ((row_seen Z F x n is.counted limit p.given f (row F known)).parts (bytes F known) j
              ∙ ap (λ (k : ℕ). get_or (parts_at (seen F known) k) j []) (sym one));
          sizes = λ j.
              rw (parts, given, seen_same F)
              (sizes_are Z F x n is.counted limit p.given f (row F known) j
              ∙ ap (λ (k : ℕ). sizes_at (seen F known) k j) (sym one));
        }

    pub record_given : w.source.size < 2 ^ 64 → p.room ≤ greatest → met ≤ p.room → (q.left ≡ 0 → met ≡ p.room) → GivesRecord (pass_cursor Z w p) g (pass_cursor Z v q)
    record_given small most within last =
        subst (λ (c : Option (List ℕ)). GivesRecord (pass_cursor Z w p) g (cursor_by Z c v q)) (sym gives.pays.same.fetches.fetches.same_content)
        (by_content (λ c. GivesRecord (cursor_by Z c w p) g (cursor_by Z c v q)) w.source.store.content
        (takes_record w v p q f g (rw (← (passing.going going).0) gives.found) same gives.pays.same.chosen small stream place left room parts most passing.met (omega (arith, met_same, within)) (met_same ∙ sum) (λ none. met_same ∙ last none))
        (λ F known.
        subst (λ (s : Stream Z). GivesRecord (record (value_cursor (seen F known) p.given) { at = p.rva }) g (record (value_cursor s q.given) { at = q.rva })) (sym (seen_same F))
        (gives_at p.rva q.rva place (value_next (seen F known) p.given q.given g given (inside F known) (fields F known)))))
