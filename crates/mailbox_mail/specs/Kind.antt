use Rattle.std.specs.Prelude.{ℕ, ◌==◌, if◌then◌else◌, Option, Some, None}
use Rattle.mailbox_mail.specs.declared.mail.Kind.{Kind}
use Rattle.mailbox_mail.specs.declared.mail.Kind.TheVariants.{Error, AoE, EoE, CoE, FoE, SoE, VoE}

-- the number of a protocol in the mail header
abbrev pub code_of : Kind → ℕ
code_of Error = 0
code_of AoE = 1
code_of EoE = 2
code_of CoE = 3
code_of FoE = 4
code_of SoE = 5
code_of VoE = 15

-- the protocol of a number of the mail header
abbrev pub kind_of : ℕ → Option Kind
kind_of code =
    if code == 0 then Some Error
    else if code == 1 then Some AoE
    else if code == 2 then Some EoE
    else if code == 3 then Some CoE
    else if code == 4 then Some FoE
    else if code == 5 then Some SoE
    else if code == 15 then Some VoE
    else None
