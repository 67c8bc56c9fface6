use Rattle.std.specs.Prelude.{ℕ, ◌==◌, ◌<◌, if◌then◌else◌}
use Rattle.datagrams.specs.declared.command.Command.{Command}
use Rattle.datagrams.specs.declared.command.Command.TheVariants.{Nop, Aprd, Apwr, Aprw, Fprd, Fpwr, Fprw, Brd, Bwr, Brw, Lrd, Lwr, Lrw, Armw, Frmw, Other}

-- the number that stands for a command in a datagram
abbrev pub number_of : Command → ℕ
number_of Nop = 0
number_of Aprd = 1
number_of Apwr = 2
number_of Aprw = 3
number_of Fprd = 4
number_of Fpwr = 5
number_of Fprw = 6
number_of Brd = 7
number_of Bwr = 8
number_of Brw = 9
number_of Lrd = 10
number_of Lwr = 11
number_of Lrw = 12
number_of Armw = 13
number_of Frmw = 14
number_of (Other n) = n

-- the command that a number stands for
abbrev pub command_of : ℕ → Command
command_of n =
    if n == 0 then Nop
    else if n == 1 then Aprd
    else if n == 2 then Apwr
    else if n == 3 then Aprw
    else if n == 4 then Fprd
    else if n == 5 then Fpwr
    else if n == 6 then Fprw
    else if n == 7 then Brd
    else if n == 8 then Bwr
    else if n == 9 then Brw
    else if n == 10 then Lrd
    else if n == 11 then Lwr
    else if n == 12 then Lrw
    else if n == 13 then Armw
    else if n == 14 then Frmw
    else Other n

-- one of the names, or a number that has none
abbrev pub IsNamed : Command → Type 0
IsNamed (Other n) = 14 < n
IsNamed _ = Unit {0}
