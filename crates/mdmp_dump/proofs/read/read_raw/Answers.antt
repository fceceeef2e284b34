use Rattle.std.proofs.Common.{Err, None, Ok, [], ap, refl, sym, ◌∙◌, ◌≡◌}
use Rattle.mdmp_dump.specs.Refusal.{inside_steps}
use Rattle.mdmp_dump.proofs.Keeping.{keeps_any, keeps_err, keeps_then}
use Rattle.mdmp_dump.proofs.Streams.{RawTaken, inside_untaken, raw_going, raw_left, raw_read, raw_taken, raw_untaken}
use Rattle.mdmp_dump.proofs.Taking.{Fetches_as, fetches_err, fetches_ok, refused_by}
use Rattle.mdmp_dump.proofs.ItemsRead.{parts_fail, parts_unread, raw_parts, reads_as, reads_done, reads_parts, reads_then, steps_sized}
use Rattle.mdmp_lister.specs.Lister.{ListerState}
use Rattle.mdmp_dump.specs.ItemsRead.{ReadsInTurn, ReadsParts}
use Rattle.mdmp_dump.proofs.read.read_raw.Goals as goal
use Rattle.mdmp_dump.proofs.read.read_raw.Goals.{else-inside, then-inside+in_ok-bytes}

pub returns-clause-fetches : goal.returns-clause-fetches
returns-clause-fetches g c =
    let old = c.args.reader.now in
    let item = c.args.item in
    let mid = c.if-inside.reader in
    let taken : RawTaken old item c.if-inside.stream mid = elim c.if-inside.branch [
      | then-inside+in_ok-bytes w ↦ raw_taken old item c.size.result c.size.ensures.content c.from-at.result c.from-size.result c.from-at.ensures c.from-size.ensures c.if-inside.stream mid
          w.in_ok-bytes.field-0 w.bytes.new.self (sym c.inside.ensures.value ∙ w.if-inside.true) w.in_ok-bytes.ensures.takes w.in_ok-bytes.ensures.of_file w.reader-is w.stream-is
      | else-inside w ↦ raw_left old item c.size.result c.size.ensures.content c.from-at.result c.from-size.result c.from-at.ensures c.from-size.ensures c.if-inside.stream mid
          (sym c.inside.ensures.value ∙ w.if-inside.false) w.reader-is w.stream-is
    ] in
    fetches_ok old.lister.source mid.lister.source c.behind.new.self.lister.source taken.fetches (c.if-inside.stream, c.in_ok-behind.field-0) c.in_ok-behind.ensures.fetches.fetches

pub returns-clause-of_file : goal.returns-clause-of_file
returns-clause-of_file g c =
    let old = c.args.reader.now in
    let item = c.args.item in
    let mid = c.if-inside.reader in
    let taken : RawTaken old item c.if-inside.stream mid = elim c.if-inside.branch [
      | then-inside+in_ok-bytes w ↦ raw_taken old item c.size.result c.size.ensures.content c.from-at.result c.from-size.result c.from-at.ensures c.from-size.ensures c.if-inside.stream mid
          w.in_ok-bytes.field-0 w.bytes.new.self (sym c.inside.ensures.value ∙ w.if-inside.true) w.in_ok-bytes.ensures.takes w.in_ok-bytes.ensures.of_file w.reader-is w.stream-is
      | else-inside w ↦ raw_left old item c.size.result c.size.ensures.content c.from-at.result c.from-size.result c.from-at.ensures c.from-size.ensures c.if-inside.stream mid
          (sym c.inside.ensures.value ∙ w.if-inside.false) w.reader-is w.stream-is
    ] in
    λ file limit x xs known left is raw. raw_read old mid c.behind.new.self item c.if-inside.stream taken file limit x xs known left is raw (Ok c.in_ok-behind.field-0) c.in_ok-behind.ensures.gives

pub returns-in_err-behind-clause-fetches : goal.returns-in_err-behind-clause-fetches
returns-in_err-behind-clause-fetches g c =
    let old = c.args.reader.now in
    let item = c.args.item in
    let mid = c.if-inside.reader in
    let taken : RawTaken old item c.if-inside.stream mid = elim c.if-inside.branch [
      | then-inside+in_ok-bytes w ↦ raw_taken old item c.size.result c.size.ensures.content c.from-at.result c.from-size.result c.from-at.ensures c.from-size.ensures c.if-inside.stream mid
          w.in_ok-bytes.field-0 w.bytes.new.self (sym c.inside.ensures.value ∙ w.if-inside.true) w.in_ok-bytes.ensures.takes w.in_ok-bytes.ensures.of_file w.reader-is w.stream-is
      | else-inside w ↦ raw_left old item c.size.result c.size.ensures.content c.from-at.result c.from-size.result c.from-at.ensures c.from-size.ensures c.if-inside.stream mid
          (sym c.inside.ensures.value ∙ w.if-inside.false) w.reader-is w.stream-is
    ] in
    let fault = c.in_err-behind.field-0.0 in
    let is = refused_by c.from_residual-in_err-behind.result fault c.from_residual-in_err-behind.ensures.1 in
    rw is (fetches_err old.lister.source mid.lister.source c.behind.new.self.lister.source taken.fetches fault c.in_err-behind.ensures.fetches)

pub returns-in_err-behind-clause-of_file : goal.returns-in_err-behind-clause-of_file
returns-in_err-behind-clause-of_file g c =
    let old = c.args.reader.now in
    let item = c.args.item in
    let mid = c.if-inside.reader in
    let taken : RawTaken old item c.if-inside.stream mid = elim c.if-inside.branch [
      | then-inside+in_ok-bytes w ↦ raw_taken old item c.size.result c.size.ensures.content c.from-at.result c.from-size.result c.from-at.ensures c.from-size.ensures c.if-inside.stream mid
          w.in_ok-bytes.field-0 w.bytes.new.self (sym c.inside.ensures.value ∙ w.if-inside.true) w.in_ok-bytes.ensures.takes w.in_ok-bytes.ensures.of_file w.reader-is w.stream-is
      | else-inside w ↦ raw_left old item c.size.result c.size.ensures.content c.from-at.result c.from-size.result c.from-at.ensures c.from-size.ensures c.if-inside.stream mid
          (sym c.inside.ensures.value ∙ w.if-inside.false) w.reader-is w.stream-is
    ] in
    let fault = c.in_err-behind.field-0.0 in
    let is = refused_by c.from_residual-in_err-behind.result fault c.from_residual-in_err-behind.ensures.1 in
    rw is (λ file limit x xs known left same raw. raw_read old mid c.behind.new.self item c.if-inside.stream taken file limit x xs known left same raw (Err fault) c.in_err-behind.ensures.gives)

pub returns-clause-going : goal.returns-clause-going
returns-clause-going g c =
    let old = c.args.reader.now in
    let item = c.args.item in
    let mid = c.if-inside.reader in
    let taken : RawTaken old item c.if-inside.stream mid = elim c.if-inside.branch [
      | then-inside+in_ok-bytes w ↦ raw_taken old item c.size.result c.size.ensures.content c.from-at.result c.from-size.result c.from-at.ensures c.from-size.ensures c.if-inside.stream mid
          w.in_ok-bytes.field-0 w.bytes.new.self (sym c.inside.ensures.value ∙ w.if-inside.true) w.in_ok-bytes.ensures.takes w.in_ok-bytes.ensures.of_file w.reader-is w.stream-is
      | else-inside w ↦ raw_left old item c.size.result c.size.ensures.content c.from-at.result c.from-size.result c.from-at.ensures c.from-size.ensures c.if-inside.stream mid
          (sym c.inside.ensures.value ∙ w.if-inside.false) w.reader-is w.stream-is
    ] in
    raw_going old mid item c.if-inside.stream taken c.in_ok-behind.field-0 c.behind.new.self.lister c.in_ok-behind.ensures.going

pub returns-clause-keeps : goal.returns-clause-keeps
returns-clause-keeps g c =
    let old = c.args.reader.now in
    let item = c.args.item in
    let mid = c.if-inside.reader in
    let taken : RawTaken old item c.if-inside.stream mid = elim c.if-inside.branch [
      | then-inside+in_ok-bytes w ↦ raw_taken old item c.size.result c.size.ensures.content c.from-at.result c.from-size.result c.from-at.ensures c.from-size.ensures c.if-inside.stream mid
          w.in_ok-bytes.field-0 w.bytes.new.self (sym c.inside.ensures.value ∙ w.if-inside.true) w.in_ok-bytes.ensures.takes w.in_ok-bytes.ensures.of_file w.reader-is w.stream-is
      | else-inside w ↦ raw_left old item c.size.result c.size.ensures.content c.from-at.result c.from-size.result c.from-at.ensures c.from-size.ensures c.if-inside.stream mid
          (sym c.inside.ensures.value ∙ w.if-inside.false) w.reader-is w.stream-is
    ] in
    keeps_then old mid c.behind.new.self taken.keeps c.in_ok-behind.ensures.keeps

pub returns-in_err-behind-clause-keeps : goal.returns-in_err-behind-clause-keeps
returns-in_err-behind-clause-keeps g c =
    let old = c.args.reader.now in
    let item = c.args.item in
    let mid = c.if-inside.reader in
    let taken : RawTaken old item c.if-inside.stream mid = elim c.if-inside.branch [
      | then-inside+in_ok-bytes w ↦ raw_taken old item c.size.result c.size.ensures.content c.from-at.result c.from-size.result c.from-at.ensures c.from-size.ensures c.if-inside.stream mid
          w.in_ok-bytes.field-0 w.bytes.new.self (sym c.inside.ensures.value ∙ w.if-inside.true) w.in_ok-bytes.ensures.takes w.in_ok-bytes.ensures.of_file w.reader-is w.stream-is
      | else-inside w ↦ raw_left old item c.size.result c.size.ensures.content c.from-at.result c.from-size.result c.from-at.ensures c.from-size.ensures c.if-inside.stream mid
          (sym c.inside.ensures.value ∙ w.if-inside.false) w.reader-is w.stream-is
    ] in
    let fault = c.in_err-behind.field-0.0 in
    let is = refused_by c.from_residual-in_err-behind.result fault c.from_residual-in_err-behind.ensures.1 in
    rw is (keeps_any (inside_steps old.lister.source.size item.entry item.location) fault old c.behind.new.self (keeps_err old mid c.behind.new.self taken.keeps fault c.in_err-behind.ensures.keeps))

pub returns-in_err-bytes-clause-fetches : goal.returns-in_err-bytes-clause-fetches
returns-in_err-bytes-clause-fetches g c =
    let fault = c.in_err-bytes.field-0.0 in
    let is = refused_by c.from_residual.result fault c.from_residual.ensures.1 in
    rw is (Fetches_as fault c.args.reader.now.lister.source c.bytes.new.self.lister.source c.in_err-bytes.ensures.takes.fetches)

pub returns-in_err-bytes-clause-keeps : goal.returns-in_err-bytes-clause-keeps
returns-in_err-bytes-clause-keeps g c =
    let fault = c.in_err-bytes.field-0.0 in
    let is = refused_by c.from_residual.result fault c.from_residual.ensures.1 in
    rw is (inside_untaken c.args.reader.now c.bytes.new.self c.args.item c.from-at.result c.from-size.result c.from-at.ensures c.from-size.ensures c.size.result c.size.ensures.value (sym c.inside.ensures.value ∙ c.if-inside.true) fault c.in_err-bytes.ensures.takes.keeps)

pub returns-in_err-bytes-clause-of_file : goal.returns-in_err-bytes-clause-of_file
returns-in_err-bytes-clause-of_file g c =
    let fault = c.in_err-bytes.field-0.0 in
    let is = refused_by c.from_residual.result fault c.from_residual.ensures.1 in
    rw is (λ file limit x xs known left same raw. record {
      value = tt;
      settles = raw_untaken c.args.reader.now c.args.item c.size.result c.size.ensures.content c.from-at.result c.from-size.result c.from-at.ensures c.from-size.ensures c.bytes.new.self fault
          (sym c.inside.ensures.value ∙ c.if-inside.true) c.in_err-bytes.ensures.takes file limit x xs known left same raw;
    })

pub returns-clause-reads : goal.returns-clause-reads
returns-clause-reads g c =
    let old = c.args.reader.now in
    let item = c.args.item in
    let mid = c.if-inside.reader in
    let same : mid.lister ≡ record old.lister { source = mid.lister.source; counts = mid.lister.counts } = elim c.if-inside.branch [
      | then-inside+in_ok-bytes w ↦ rw w.reader-is w.in_ok-bytes.ensures.takes.same
      | else-inside w ↦ rw w.reader-is refl
    ] in
    let parts : ReadsParts (inside_steps old.lister.source.size item.entry item.location) [] old.lister mid.lister = elim c.if-inside.branch [
      | then-inside+in_ok-bytes w ↦ raw_parts old mid w.bytes.new.self item c.from-at.result c.from-size.result c.from-at.ensures c.from-size.ensures c.size.result c.size.ensures.value
          (sym c.inside.ensures.value ∙ w.if-inside.true) w.reader-is w.in_ok-bytes.ensures.takes.parts
      | else-inside w ↦ rw w.reader-is (parts_unread _ old.lister)
    ] in
    let going : mid.lister.stop ≡ None = ap (λ (l : ListerState). l.stop) same ∙ c.requires in
    let first : ReadsInTurn {T = Unit {0}} (inside_steps old.lister.source.size item.entry item.location) (Ok tt) [] old.lister mid.lister = reads_parts _ [] tt old.lister mid.lister parts in
    let all = reads_then _ [] _ _ _ old.lister mid.lister _ going first c.in_ok-behind.ensures.reads in
    reads_done _ _ _ _ _ _ (steps_sized _ _ c.in_ok-behind.field-0 _ _ _ _ parts.aside.fetches.same_size all)

pub returns-in_err-behind-clause-reads : goal.returns-in_err-behind-clause-reads
returns-in_err-behind-clause-reads g c =
    let old = c.args.reader.now in
    let item = c.args.item in
    let mid = c.if-inside.reader in
    let same : mid.lister ≡ record old.lister { source = mid.lister.source; counts = mid.lister.counts } = elim c.if-inside.branch [
      | then-inside+in_ok-bytes w ↦ rw w.reader-is w.in_ok-bytes.ensures.takes.same
      | else-inside w ↦ rw w.reader-is refl
    ] in
    let parts : ReadsParts (inside_steps old.lister.source.size item.entry item.location) [] old.lister mid.lister = elim c.if-inside.branch [
      | then-inside+in_ok-bytes w ↦ raw_parts old mid w.bytes.new.self item c.from-at.result c.from-size.result c.from-at.ensures c.from-size.ensures c.size.result c.size.ensures.value
          (sym c.inside.ensures.value ∙ w.if-inside.true) w.reader-is w.in_ok-bytes.ensures.takes.parts
      | else-inside w ↦ rw w.reader-is (parts_unread _ old.lister)
    ] in
    let going : mid.lister.stop ≡ None = ap (λ (l : ListerState). l.stop) same ∙ c.requires in
    let first : ReadsInTurn {T = Unit {0}} (inside_steps old.lister.source.size item.entry item.location) (Ok tt) [] old.lister mid.lister = reads_parts _ [] tt old.lister mid.lister parts in
    let fault = c.in_err-behind.field-0.0 in
    let is = refused_by c.from_residual-in_err-behind.result fault c.from_residual-in_err-behind.ensures.1 in
    rw is (reads_as _ fault _ _ (reads_then _ [] [] _ _ old.lister mid.lister _ going first c.in_err-behind.ensures.reads))

pub returns-in_err-bytes-clause-reads : goal.returns-in_err-bytes-clause-reads
returns-in_err-bytes-clause-reads g c =
    let old = c.args.reader.now in
    let new = c.bytes.new.self in
    let fault = c.in_err-bytes.field-0.0 in
    let is = refused_by c.from_residual.result fault c.from_residual.ensures.1 in
    let takes = c.in_err-bytes.ensures.takes in
    rw is (parts_fail _ fault old.lister new.lister takes.of_steps
    (raw_parts old new new c.args.item c.from-at.result c.from-size.result c.from-at.ensures c.from-size.ensures c.size.result c.size.ensures.value (sym c.inside.ensures.value ∙ c.if-inside.true) refl takes.parts))
