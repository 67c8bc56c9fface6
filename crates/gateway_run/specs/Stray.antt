-- WHEN DATAGRAMS WERE HEARD, by how many frames had been sent before each; and what error 5 says of one that wasn't passed on.
use Rattle.std.specs.Prelude.{◌≡◌, ◌<◌, ◌≤◌, ℕ, Some, None, List, [], ◌∷◌, slice_get, All, Ok, ⊤}
use Rattle.gateway_core.specs.Framing.{request_in}
use Rattle.gateway_core.specs.of_mailbox_mail.Mail.{error_of}
use Rattle.gateway_core.specs.of_mailbox_mail.declared.mail.Mail.{Mail}
use Rattle.run_record.specs.of_run_book.declared.book.GramIn.{GramIn}
use Rattle.run_record.specs.of_run_book.declared.book.SlaveBook.{SlaveBook}
use Rattle.gateway_run.specs.Account.{Owing}
use Rattle.gateway_run.specs.Rooms.{owed_for}

-- the numbers of frames sent before these don't fall
abbrev pub DontFall : List GramIn → Type 0
DontFall [] = ⊤
DontFall (g ∷ gs) = All (λ (h : GramIn). g.frame ≤ h.frame) gs × DontFall gs

-- each slave that is at home under a station was given up for good before so many frames had been sent
abbrev pub AreGone : List (ℕ × ℕ) → List SlaveBook → ℕ → ℕ → Type 0
AreGone homes rows station frames =
    (place len : ℕ) (row : SlaveBook) → slice_get homes place ≡ Some (station, len) → slice_get rows place ≡ Some row
    → (at : ℕ) × (row.given_up ≡ Some at) × (at < frames)

-- A DATAGRAM THAT WASN'T PASSED ON gets error 5 only where no slave has its station, but such as were given up for good before it was heard
abbrev pub IsStray : List (ℕ × ℕ) → List SlaveBook → List Owing → ℕ → GramIn → Type 0
IsStray homes rows os n g =
    g.queued ≡ None → (asked : Mail) → request_in g.bytes ≡ Ok asked → owed_for n os ≡ error_of 5 ∷ []
    → AreGone homes rows asked.address g.frame
