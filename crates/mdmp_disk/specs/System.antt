-- The disk of the system, as its callers see it.
use Rattle.std.specs.Prelude.{true, None}
use Rattle.mdmp_disk.specs.declared.disk.Requests.{Requests}
use Rattle.mdmp_disk.specs.Disk.{DiskState, unknown}
use Rattle.mdmp_disk.specs.Input.{unsure}

-- no calls yet
abbrev pub no_requests : Requests
no_requests = record { opened = 0; made = 0; inputs = 0; refused = 0 }

-- nothing is known of its files, nor of what those take that it makes, nor of standard input
abbrev pub system : Requests → DiskState
system requests = record { files = λ name. unknown; input = unsure None; blank = None; is_making = λ name. true; requests = requests }
