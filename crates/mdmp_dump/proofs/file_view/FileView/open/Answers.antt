use Rattle.mdmp_dump.proofs.file_view.FileView.open.Goals as goal

pub returns-in-Err-clause-dropped : goal.returns-in-Err-clause-dropped
returns-in-Err-clause-dropped g c = record { gone = c.in-Err.field-0.source; dropped = c.let_go.ensures; left = c.in-Err.ensures.handed_back }
