-- The next mail is the first of those that wait.
use Rattle.std.proofs.Common.{◌≡◌, ℕ, true, false, List, [], ◌∷◌, ◌++◌, map, Some, refl, sym, ap, ◌∙◌}
use Rattle.std.specs.Prelude.{is_some}
use Rattle.slave_node.specs.of_mailbox_mail.declared.mail.Mail.{Mail}
use Rattle.soe_server.specs.of_protocol_models.CoeOctets as CoeOctets
use Rattle.soe_server.specs.of_protocol_models.FoeOctets as FoeOctets
use Rattle.soe_server.specs.of_protocol_models.SoeOctets as SoeOctets
use Rattle.soe_server.specs.of_protocol_models.EoeOctets as EoeOctets
use Rattle.slave_parts.specs.of_coe_server.Serving as Coe
use Rattle.slave_parts.specs.of_foe_server.Serving as Foe
use Rattle.slave_parts.specs.of_foe_server.declared.state.Pending.{Pending}
use Rattle.soe_server.specs.Serving as Soe
use Rattle.slave_parts.specs.of_eoe_server.Serving as Eoe
use Rattle.slave_server.proofs.Takes.{idle_of, map_none}
use Rattle.slave_server.specs.Serving.{Serving, Inside, view_of, server_in, waiting_of, failures, coe_mails, foe_mails, soe_mails, eoe_mails, next_mail, rest, first_of, behind_first}

-- the mail that was given, and those behind it
pub record Gives (s : Inside) (m : Mail) (new : Inside) : Type 0 where
  pub given : next_mail (view_of s) ≡ Some m
  pub left : view_of new ≡ rest (view_of s)

gives : (s new : Inside) (m : Mail) → waiting_of s ≡ m ∷ waiting_of new → view_of new ≡ record (view_of s) { waiting = waiting_of new } → Gives s m new
gives s new m mails same = record {
  given = ap first_of mails;
  left = same ∙ ap (λ l. record (view_of s) { waiting = behind_first l }) (sym mails);
}

pub sdo_gives : (s : Inside) (c : Coe.Serving) (m : Mail) → failures s.failure ≡ [] → Coe.GivesNext s.sdo m c → Coe.transfer_of c ≡ Coe.transfer_of s.sdo → Gives s m (record s { sdo = c })
sdo_gives s c m none g same =
    let new : Inside = record s { sdo = c } in
    let behind = foe_mails s ++ (soe_mails s ++ eoe_mails s) in
    gives s new m
    (ap (λ l. l ++ (coe_mails s ++ behind)) none ∙ ap (λ l. map CoeOctets.coe_mail_written l ++ behind) g.rest ∙ ap (λ x. x ∷ (coe_mails new ++ behind)) (sym g.spelled)
    ∙ ap (λ l. m ∷ (l ++ (coe_mails new ++ behind))) (sym none))
    (ap (λ t. record (view_of new) { server = record (server_in s) { sdo = t } }) same)

pub file_gives : (s : Inside) (c : Foe.Serving) (m : Mail) → failures s.failure ≡ [] → coe_mails s ≡ [] → Foe.GivesNext s.file s.store m c → Gives s m (record s { file = c })
file_gives s c m none silent g =
    let fresh : Foe.Serving = record s.file { pending = Pending.Nothing } in
    let new : Inside = record s { file = c } in
    let behind = soe_mails s ++ eoe_mails s in
    let over : foe_mails new ≡ [] = ap (λ x. map FoeOctets.foe_mail_written (Foe.waiting_mails x s.store)) g.rest in
    gives s new m
    (ap (λ l. l ++ (coe_mails s ++ (foe_mails s ++ behind))) none ∙ ap (λ l. l ++ (foe_mails s ++ behind)) silent
    ∙ ap (λ l. map FoeOctets.foe_mail_written l ++ behind) g.waited ∙ ap (λ x. x ∷ behind) (sym g.spelled)
    ∙ ap (λ l. m ∷ (l ++ behind)) (sym over) ∙ ap (λ l. m ∷ (l ++ (foe_mails new ++ behind))) (sym silent) ∙ ap (λ l. m ∷ (l ++ (coe_mails s ++ (foe_mails new ++ behind)))) (sym none))
    (ap (λ x. record (view_of s) { server = record (server_in s) { file = Foe.transfer_of x s.store }; waiting = waiting_of new }) g.rest)

pub drive_gives : (s : Inside) (c : Soe.Serving) (m : Mail) → failures s.failure ≡ [] → coe_mails s ≡ [] → foe_mails s ≡ [] → Soe.GivesNext s.drive m c → Soe.join_of c ≡ Soe.join_of s.drive → Gives s m (record s { drive = c })
drive_gives s c m none silent quiet g same =
    let new : Inside = record s { drive = c } in
    let ahead = λ (l : List Mail). failures s.failure ++ (coe_mails s ++ (foe_mails s ++ l)) in
    let bare : (l : List Mail) → ahead l ≡ l = λ l. rw (none, silent, quiet) refl in
    gives s new m
    (bare (soe_mails s ++ eoe_mails s) ∙ ap (λ l. map SoeOctets.soe_mail_written l ++ eoe_mails s) g.rest ∙ ap (λ x. x ∷ (soe_mails new ++ eoe_mails s)) (sym g.spelled)
    ∙ ap (λ l. m ∷ l) (sym (bare (soe_mails new ++ eoe_mails s))))
    (ap (λ t. record (view_of new) { server = record (server_in s) { join = t } }) same)

pub ether_gives : (s : Inside) (c : Eoe.Serving) (m : Mail) → failures s.failure ≡ [] → coe_mails s ≡ [] → foe_mails s ≡ [] → soe_mails s ≡ [] →
    Eoe.GivesNext s.ether s.addresses.block.items m c → c ≡ record s.ether { answer = c.answer; sending = c.sending } → Gives s m (record s { ether = c })
ether_gives s c m none silent quiet still g same =
    let new : Inside = record s { ether = c } in
    let ahead = λ (l : List Mail). failures s.failure ++ (coe_mails s ++ (foe_mails s ++ (soe_mails s ++ l))) in
    let bare : (l : List Mail) → ahead l ≡ l = λ l. rw (none, silent, quiet, still) refl in
    gives s new m
    (bare (eoe_mails s) ∙ ap (λ l. map EoeOctets.eoe_mail_written l) g.rest ∙ ap (λ x. x ∷ eoe_mails new) (sym g.spelled) ∙ ap (λ l. m ∷ l) (sym (bare (eoe_mails new))))
    (ap (λ x. record (view_of s) { server = server_in (record s { ether = x }); waiting = waiting_of new }) same)

is_there : (l : List Mail) → (l ≡ [] → ⊥) → true ≡ is_some (first_of l)
is_there [] some = absurd (some refl)
is_there (m ∷ l) some = refl

-- a mail of EoE waits
pub ether_waits : (s : Inside) (v : Serving) → view_of s ≡ v → ((block : List ℕ) → Eoe.waiting_mails s.ether block ≡ [] → true ≡ false) → true ≡ is_some (next_mail v)
ether_waits s v view some =
    is_there (waiting_of s) (λ e. let impossible : true ≡ false = some s.addresses.block.items (map_none EoeOctets.eoe_mail_written _ (idle_of s e).eoe) in absurd (cc))
    ∙ ap (λ w. is_some (next_mail w)) view
