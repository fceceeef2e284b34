use Rattle.mdmp_dump.proofs.Budget.{outside-refused}
use Rattle.mdmp_dump.proofs.reader.Reader.bytes_at.Goals as goal

pub returns-in-Inside-clause-of_file : goal.returns-in-Inside-clause-of_file
returns-in-Inside-clause-of_file g c = λ file known. rw c.in-Inside.is (c.bytes.ensures.of_file file known)

pub returns-in-Outside-clause-takes : goal.returns-in-Outside-clause-takes
returns-in-Outside-clause-takes g c =
    rw c.in-Outside.is (outside-refused c.args.self.now c.args.place.entry c.args.place.index c.args.name c.args.offset c.args.size)
