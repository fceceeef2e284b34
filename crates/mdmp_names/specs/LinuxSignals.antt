-- Signals of Linux. Made by bindings/generate from bindings/names.toml.
use Rattle.std.specs.Prelude.{ℕ, List, [], ◌∷◌, Option, codes}
use Rattle.mdmp_names.specs.Table.{NamedNumber, name_among}

abbrev pub linux_signals : List NamedNumber
linux_signals =
    (1, codes "SIGHUP")
    ∷ (2, codes "SIGINT")
    ∷ (3, codes "SIGQUIT")
    ∷ (4, codes "SIGILL")
    ∷ (5, codes "SIGTRAP")
    ∷ (6, codes "SIGABRT")
    ∷ (7, codes "SIGBUS")
    ∷ (8, codes "SIGFPE")
    ∷ (9, codes "SIGKILL")
    ∷ (10, codes "SIGUSR1")
    ∷ (11, codes "SIGSEGV")
    ∷ (12, codes "SIGUSR2")
    ∷ (13, codes "SIGPIPE")
    ∷ (14, codes "SIGALRM")
    ∷ (15, codes "SIGTERM")
    ∷ (16, codes "SIGSTKFLT")
    ∷ (17, codes "SIGCHLD")
    ∷ (18, codes "SIGCONT")
    ∷ (19, codes "SIGSTOP")
    ∷ (20, codes "SIGTSTP")
    ∷ (21, codes "SIGTTIN")
    ∷ (22, codes "SIGTTOU")
    ∷ (23, codes "SIGURG")
    ∷ (24, codes "SIGXCPU")
    ∷ (25, codes "SIGXFSZ")
    ∷ (26, codes "SIGVTALRM")
    ∷ (27, codes "SIGPROF")
    ∷ (28, codes "SIGWINCH")
    ∷ (29, codes "SIGIO")
    ∷ (30, codes "SIGPWR")
    ∷ (31, codes "SIGSYS")
    ∷ (0xFFFFFFFF, codes "MD_EXCEPTION_CODE_LIN_DUMP_REQUESTED")
    ∷ []

abbrev pub linux_signal : ℕ → Option (List ℕ)
linux_signal = name_among linux_signals
