use Rattle.mdmp_engines.proofs.Symbols.{Leaves-cut, Leaves-done}
use Rattle.std.proofs.Common.{arith}
use Rattle.mdmp_engines.proofs.Besides.{read_more, taken_read}
use Rattle.mdmp_engines.proofs.SameRuns.{aside_read, record_read, run_aside}
use Rattle.mdmp_lister.proofs.Requested as requested
use Rattle.mdmp_engines.proofs.list.list_symbols.Goals as goal

pub returns-in-Ok-print_symbols-clause-stays : goal.returns-in-Ok-print_symbols-clause-stays
returns-in-Ok-print_symbols-clause-stays g c = requested.aside_read _ _ _ _ _ c.codeview.follows.holds-at-none.aside

pub returns-in-Ok-print_symbols-clause-leaves : goal.returns-in-Ok-print_symbols-clause-leaves
returns-in-Ok-print_symbols-clause-leaves g c = Leaves-done _ _ _ _ _ tt c.codeview.follows.holds-at-none.aside.fetches c.in-Ok-print_symbols.ensures.steady

pub returns-in-Ok-print_symbols-clause-same : goal.returns-in-Ok-print_symbols-clause-same
returns-in-Ok-print_symbols-clause-same g c = run_aside _ _ _ _ c.codeview.follows.holds-at-none.aside

pub returns-in-Err-print_symbols-clause-stays : goal.returns-in-Err-print_symbols-clause-stays
returns-in-Err-print_symbols-clause-stays g c = requested.aside_read _ _ _ _ _ c.codeview.follows.holds-at-none.aside

pub returns-in-Err-print_symbols-clause-leaves : goal.returns-in-Err-print_symbols-clause-leaves
returns-in-Err-print_symbols-clause-leaves g c = Leaves-cut _ _ _ _ _ c.codeview.follows.holds-at-none.aside.fetches c.in-Err-print_symbols.ensures.refused

pub returns-in-Err-print_symbols-clause-same : goal.returns-in-Err-print_symbols-clause-same
returns-in-Err-print_symbols-clause-same g c = run_aside _ _ _ _ c.codeview.follows.holds-at-none.aside

pub returns-in-Err-clause-stays : goal.returns-in-Err-clause-stays
returns-in-Err-clause-stays g c = requested.aside_read _ _ _ _ _ c.codeview.follows.holds-at-none.aside

pub returns-in-Err-clause-same : goal.returns-in-Err-clause-same
returns-in-Err-clause-same g c = run_aside _ _ _ _ c.codeview.follows.holds-at-none.aside

pub returns-in-Ok-print_symbols-clause-aside : goal.returns-in-Ok-print_symbols-clause-aside
returns-in-Ok-print_symbols-clause-aside g c = λ kept. record { kept = aside_read _ _ _ _ _ c.in_default-over_aside.ensures (record_read _ _ _ c.codeview.ensures.fetched) c.codeview.follows.holds-at-none.aside.aside.aside; over = tt }

pub returns-in-Err-print_symbols-clause-aside : goal.returns-in-Err-print_symbols-clause-aside
returns-in-Err-print_symbols-clause-aside g c = λ kept. record { kept = aside_read _ _ _ _ _ c.in_default-over_aside.ensures (record_read _ _ _ c.codeview.ensures.fetched) c.codeview.follows.holds-at-none.aside.aside.aside; over = tt }

pub returns-in-Err-clause-aside : goal.returns-in-Err-clause-aside
returns-in-Err-clause-aside g c = λ kept. record { kept = aside_read _ _ _ _ _ c.in_default-over_aside.ensures (record_read _ _ _ c.codeview.ensures.fetched) c.codeview.follows.holds-at-none.aside.aside.aside; over = tt }

pub returns-in-Ok-print_symbols-clause-read : goal.returns-in-Ok-print_symbols-clause-read
returns-in-Ok-print_symbols-clause-read g c = rw c.in-Some.is (record {
  most = read_more _ _ _ _ (record_read _ _ _ c.codeview.ensures.fetched) c.codeview.follows.holds-at-none.aside.aside.aside;
  rests = tt;
  taken = λ file content.
      let told = taken_read file c.in-Some.field-0.location c.args.lister.now.limit c.in-Ok.bytes c.in-Ok.ensures.fetched (c.in-Ok.ensures.head file content) in
      let count = rw c.in-Ok.is at c.codeview.follows.holds-at-none.counted in
      omega (arith, count, told);
})

pub returns-in-Err-print_symbols-clause-read : goal.returns-in-Err-print_symbols-clause-read
returns-in-Err-print_symbols-clause-read g c = rw c.in-Some.is (record { most = read_more _ _ _ _ (record_read _ _ _ c.codeview.ensures.fetched) c.codeview.follows.holds-at-none.aside.aside.aside; rests = tt; taken = λ file content. tt })

pub returns-in-Err-clause-read : goal.returns-in-Err-clause-read
returns-in-Err-clause-read g c = rw c.in-Some.is (record { most = read_more _ _ _ _ (record_read _ _ _ c.codeview.ensures.fetched) c.codeview.follows.holds-at-none.aside.aside.aside; rests = tt; taken = λ file content. tt })

pub returns-in-Ok-print_symbols-clause-names : goal.returns-in-Ok-print_symbols-clause-names
returns-in-Ok-print_symbols-clause-names g c = c.codeview.follows.holds-at-none.aside.aside.same_names

pub returns-in-Err-print_symbols-clause-names : goal.returns-in-Err-print_symbols-clause-names
returns-in-Err-print_symbols-clause-names g c = c.codeview.follows.holds-at-none.aside.aside.same_names

pub returns-in-Err-clause-names : goal.returns-in-Err-clause-names
returns-in-Err-clause-names g c = c.codeview.follows.holds-at-none.aside.aside.same_names
