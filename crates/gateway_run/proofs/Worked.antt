-- WORKED ROWS: a datagram that asks for the value of IDN 1 from the drive at station 1001, and what it got. Its slave replies in three parts.
use Rattle.std.proofs.Common.{◌≡◌, ◌<◌, ◌≤◌, ◌⊎◌, ℕ, true, false, inl, inr, List, [], ◌∷◌, refl, sym, ap, ◌∙◌, arith}
use Rattle.std.specs.Prelude.{Option, Some, None, Ok, slice_index_or}
use Rattle.std.proofs.lemmas.List.Elements.{All-cons, All-nil}
use Rattle.std.proofs.lemmas.List.Quantifiers.{Any-push}
use Rattle.run_record.specs.of_life_runs.Served.{Serves}
use Rattle.gateway_core.specs.of_mailbox_mail.Mail.{error_of}
use Rattle.gateway_core.specs.of_mailbox_mail.declared.mail.Kind.TheVariants.{SoE}
use Rattle.gateway_core.specs.of_mailbox_mail.declared.mail.Mail.{Mail}
use Rattle.gateway_core.specs.declared.framing.GatewayFault.TheVariants as faults
use Rattle.run_record.specs.of_exchange_model.Rows.{Row}
use Rattle.run_record.specs.of_link_mails.Body.{Body}
use Rattle.run_record.specs.of_master_duty.Reply.{Reply}
use Rattle.run_record.specs.of_master_hand.Spoken.{Asked, passed}
use Rattle.run_record.specs.of_run_book.declared.book.GramIn.{GramIn}
use Rattle.gateway_run.specs.Account.{Owing}
use Rattle.gateway_run.specs.Replies.{AllGot, Fares.dropped, Fares.replies, Fares.waits, Got.ignored, Got.queued, Got.refused}
use Rattle.gateway_run.specs.Since.{GaveSince, NoneSince, SparedBetween}
use Rattle.gateway_run.specs.declared.desk.Request.{Request}

-- a mail of SoE with this body, to the station and from it, with a counter
abbrev counted : ℕ → List ℕ → Mail
counted counter body = record { address = 1001; kind = SoE; counter = counter; body = record { items = body } }

-- the same as it is told, without address and counter
abbrev bare : List ℕ → Mail
bare body = record { address = 0; kind = SoE; counter = 0; body = record { items = body } }

-- the mail that asks, and the parts of the reply: others follow the first two
abbrev asking : List ℕ
asking = 1 ∷ 64 ∷ 1 ∷ 0 ∷ []

abbrev part1 : List ℕ
part1 = 10 ∷ 64 ∷ 2 ∷ 0 ∷ 65 ∷ []

abbrev part2 : List ℕ
part2 = 10 ∷ 64 ∷ 1 ∷ 0 ∷ 66 ∷ []

abbrev part3 : List ℕ
part3 = 2 ∷ 64 ∷ 1 ∷ 0 ∷ 67 ∷ []

-- THE DATAGRAM of that mail, heard before frame 2, with this about where it was passed on; and one that is too short
abbrev heard_at : Option ℕ → GramIn
heard_at slave = record { peer = record { ip = 2130706433; port = 34980 }; bytes = 10 ∷ 80 ∷ 4 ∷ 0 ∷ 233 ∷ 3 ∷ 0 ∷ 21 ∷ asking; queued = slave; frame = 2 }

abbrev short : GramIn
short = record { peer = record { ip = 2130706433; port = 34980 }; bytes = 2 ∷ 80 ∷ 4 ∷ 0 ∷ 233 ∷ 3 ∷ 0 ∷ []; queued = None; frame = 0 }

-- its request at the desk
abbrev asked_for : List Request
asked_for = record { key = 7; slave = 0; gram = 0; begun = false } ∷ []

abbrev begun_for : List Request
begun_for = record { key = 7; slave = 0; gram = 0; begun = true } ∷ []

-- a mail that is owed by it
abbrev owed : Mail → Owing
owed mail = record { gram = 0; mail = mail }

-- IT IS IGNORED, as what is no request
pub ignored_row : (ws : List Serves) (came : List (List ℕ)) → AllGot ws came [] [] [] 0 (short ∷ [])
ignored_row ws came = (ignored faults.Short refl refl refl, tt)

-- IT GETS ONE ERROR, where no slave has the station
pub refused_row : (ws : List Serves) (came : List (List ℕ)) → AllGot ws came [] [] (owed (error_of 5) ∷ []) 0 (heard_at None ∷ [])
refused_row ws came = (refused (counted 1 asking) 5 refl refl (λ same. omega (arith, same)) refl, tt)

-- a give-up at frame 1 was before the datagram was heard; one at frame 2 or later wasn't
pub since_one : GaveSince 2 (1 ∷ []) → ⊥
since_one given =
    let few = given.2 in
    let first : given.0 ≡ 0 = omega (arith, few) in
    let same : 1 ≡ given.1 = sym (ap (λ (k : ℕ). slice_index_or (1 ∷ []) k given.1) first) ∙ given.3 in
    let due = given.4 in
    omega (arith, same, due)

since_three : GaveSince 2 (1 ∷ 3 ∷ [])
since_three = Any-push (λ (at : ℕ). 2 ≤ at) (1 ∷ []) 3 (omega arith)

before_two : NoneSince 2 (1 ∷ [])
before_two = All-cons (λ (at : ℕ). at < 2) 1 [] (omega arith) (All-nil (λ (at : ℕ). at < 2))

module _ (w : Serves) where
  -- the row of its mail, which came into hand before frame 3, and in which these mails were heard
  abbrev row : List Body → Row Body Asked Reply
  row heard = record { service = passed (bare asking); frame = 3; told = Ok (bare asking) ∷ []; heard = heard; answer = None }

  -- the slave with no row, or with just this one, given up at these frames
  abbrev with_rows : Option (Row Body Asked Reply) → List ℕ → Serves
  with_rows newest gave = record w {
    lead = record w.lead {
      lived = record w.lead.lived {
        life = record w.lead.lived.life { past = []; gave = gave; era = record w.lead.lived.life.era { side = record w.lead.lived.life.era.side { past = []; now = newest } } };
      };
    };
  }

  -- ITS MAIL WAITS, of a slave that was given up before the datagram was heard
  pub waits_row : AllGot (with_rows None (1 ∷ []) ∷ []) ([] ∷ []) asked_for [] [] 0 (heard_at (Some 0) ∷ [])
  waits_row = (queued (counted 1 asking) 0 (with_rows None (1 ∷ [])) [] refl refl refl refl (waits refl refl before_two refl), tt)

  -- ITS SLAVE WAS GIVEN UP since, before the mail came into hand: one mailbox error 5
  pub dropped_row : AllGot (with_rows None (1 ∷ 3 ∷ []) ∷ []) ([] ∷ []) [] [] (owed (error_of 5) ∷ []) 0 (heard_at (Some 0) ∷ [])
  dropped_row = (queued (counted 1 asking) 0 (with_rows None (1 ∷ 3 ∷ [])) [] refl refl refl refl (dropped refl refl refl refl since_three refl), tt)

  -- all three parts, as they were heard
  abbrev all : List Body
  all = Ok (counted 1 part1) ∷ Ok (counted 2 part2) ∷ Ok (counted 3 part3) ∷ []

  -- the datagram's slave wasn't given up while its mail waited, nor since
  spared : SparedBetween 2 3 (1 ∷ [])
  spared = All-cons (λ (at : ℕ). (at < 2) ⊎ (3 ≤ at)) 1 [] (inl (omega arith)) (All-nil (λ (at : ℕ). (at < 2) ⊎ (3 ≤ at)))

  before_three : NoneSince 3 (1 ∷ [])
  before_three = All-cons (λ (at : ℕ). at < 3) 1 [] (omega arith) (All-nil (λ (at : ℕ). at < 3))

  -- TWO OF THREE REPLIES were told so far, and its request is unfinished
  pub begun_row : AllGot (with_rows (Some (row all)) (1 ∷ []) ∷ []) ((0 ∷ []) ∷ []) begun_for [] (owed (bare part1) ∷ owed (bare part2) ∷ []) 0 (heard_at (Some 0) ∷ [])
  begun_row = (
    queued (counted 1 asking) 0 (with_rows (Some (row all)) (1 ∷ [])) (0 ∷ []) refl refl refl refl
        (replies (Ok (counted 1 part1) ∷ Ok (counted 2 part2) ∷ [])
        (record { index = 0; its = refl; row = row all; is = refl; mail = bare asking; same = record { kind = refl; body = refl }; service = refl; rest = Ok (counted 3 part3) ∷ []; heard = refl })
        spared (inl (refl, before_three)) refl),
    tt,
  )

  -- ITS ROW IS DONE: it has all three
  pub done_row : AllGot (with_rows (Some (row all)) (1 ∷ []) ∷ []) ((0 ∷ []) ∷ []) [] (0 ∷ []) (owed (bare part1) ∷ owed (bare part2) ∷ owed (bare part3) ∷ []) 0 (heard_at (Some 0) ∷ [])
  done_row = (
    queued (counted 1 asking) 0 (with_rows (Some (row all)) (1 ∷ [])) (0 ∷ []) refl refl refl refl
        (replies all (record { index = 0; its = refl; row = row all; is = refl; mail = bare asking; same = record { kind = refl; body = refl }; service = refl; rest = []; heard = refl }) spared (inr refl) refl),
    tt,
  )
