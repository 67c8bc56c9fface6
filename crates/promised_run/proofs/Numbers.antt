-- The numbers of the events at each slave's port, by the rows of a book.
use Rattle.std.proofs.Common.{◌≡◌, ◌≢◌, ℕ, zero, suc, Bool, true, false, Option, None, List, [], ◌∷◌, ◌++◌, map, refl, sym, ap, subst, ◌∙◌}
use Rattle.std.specs.Prelude.{All, if◌then◌else◌, slice_get}
use Rattle.std.proofs.lemmas.List.{map-append}
use Rattle.std.proofs.lemmas.List.Elements.{All-head, All-tail}
use Rattle.run_promises.specs.of_life_runs.First.{lens_of}
use Rattle.run_promises.specs.of_life_runs.Led.{Exchanged, Leads}
use Rattle.seen_slaves.specs.of_frame_view.Shares.{AllBoth}
use Rattle.run_promises.specs.of_link_mails.Body.{Body}
use Rattle.seen_slaves.specs.of_master_duty.Reply.{Reply}
use Rattle.seen_slaves.specs.of_master_hand.Spoken.{Asked}
use Rattle.promised_run.specs.Packets.{AllHavePackets}
use Rattle.promised_run.specs.Numbers.{AllHaveNumbers, eras_rows, given_up_in, life_rows, rows_at, script_frame, script_frames, scripts_at}
use Rattle.promised_run.proofs.Ports.{first_live}
use Rattle.promised_run.proofs.Rows.{other_frames, others_append, run_others, run_packets}
use Rattle.gateway_run.specs.of_run_book.declared.book.Answer.{Answer}
use Rattle.gateway_run.specs.of_run_book.declared.book.Begun.{Begun}
use Rattle.gateway_run.specs.of_run_book.declared.book.Book.{Book}
use Rattle.gateway_run.specs.of_run_book.declared.book.Ending.{Ending}
use Rattle.gateway_run.specs.of_run_book.declared.book.Ending.TheVariants as endings
use Rattle.gateway_run.specs.of_run_book.declared.book.SlaveBook.{SlaveBook}
use Rattle.run_promises.specs.of_master_node.Ports.{ports_behind, ports_of}
use Rattle.run_promises.specs.of_master_node.Wants.{gave_of}
use Rattle.run_promises.specs.of_master_node.declared.event.Origin.{Origin}
use Rattle.run_promises.specs.of_master_node.declared.event.Origin.TheVariants.{Script, Forward, Gateway}
use Rattle.run_promises.proofs.of_packets_heard.GivenUp.{numbers_down}
use Rattle.run_promises.proofs.of_packets_heard.Numbers.{numbers_begun, numbers_heard}
use Rattle.run_promises.proofs.of_packets_heard.Quiet.{run_quiet}
use Rattle.run_promises.proofs.of_packets_heard.Owns.{own_port}
use Rattle.gateway_run.specs.of_run_record.Led.{LeadTo, ListsAll, NumbersAll}
use Rattle.gateway_run.specs.of_run_notes.Slaves.{gaves_in}
use Rattle.gateway_run.specs.of_run_notes.Packets.{AreNumbered, begun_in, numbered_from}
use Rattle.gateway_run.specs.of_run_record.Ran.{EndsAs, HasRows, IsGivenUp}
use Rattle.gateway_run.specs.of_run_notes.Reports.{IsBooked, noted_in, noted_of, reply_in}
use Rattle.run_promises.specs.of_packets_heard.Numbers.{NoneWaits, events_up_to, frames_begun, given_up_at, number_behind}
use Rattle.seen_slaves.specs.of_run_frames.ScriptAnswers.{AllNoted, Noted, Scripted, changes_behind, era_scripted, eras_scripted, life_scripted, next_opened, opened_anew, scripted_by, scripted_in, scripted_mails, side_answers}
use Rattle.seen_slaves.specs.of_run_frames.Came.{is_beside}
use Rattle.run_promises.specs.of_life_model.Lives.{Era, Life}
use Rattle.run_promises.specs.of_state_model.Stated.{Service}
use Rattle.run_promises.specs.of_state_model.Accounts.{Change, Started}
use Rattle.run_promises.specs.of_segment_plan.declared.plan.Scenario.{Scenario}

-- ---- the rows of the script: by a life, as they are noted, and in a book

abbrev came_frames : List Scripted → List ℕ
came_frames ss = map (λ (s : Scripted). s.frame) ss

abbrev noted_frames : List Noted → List ℕ
noted_frames ns = map (λ (n : Noted). n.frame) ns

mails_frames : (b : Bool) (frame : ℕ) (answer : Option (Reply × ℕ)) (more : List Scripted) (rest : List ℕ) → came_frames more ≡ rest → came_frames (scripted_mails b frame answer more) ≡ (if b then rest else frame ∷ rest)
mails_frames true frame answer more rest e = e
mails_frames false frame answer more rest e = ap (λ z. frame ∷ z) e

era_frames : (anew : Option ℕ) (rs : List (Started Asked)) (answers : List (Option (Reply × ℕ))) (changes : List (Change Reply)) → came_frames (scripted_in anew rs answers changes) ≡ other_frames rs
era_frames anew [] answers changes = refl
era_frames anew (r ∷ rs) answers changes = by r.service answers (λ as' cs. era_frames anew rs as' cs)
  where
    by : (s : Service Asked) (as' : List (Option (Reply × ℕ))) → ((bs : List (Option (Reply × ℕ))) (cs : List (Change Reply)) → came_frames (scripted_in anew rs bs cs) ≡ other_frames rs) →
        came_frames (scripted_by anew s r.frame as' changes (λ bs cs. scripted_in anew rs bs cs)) ≡ (if is_beside s then other_frames rs else r.frame ∷ other_frames rs)
    by (Service.State target) as' rest = ap (λ z. r.frame ∷ z) (rest as' (changes_behind changes))
    by (Service.Mails q) [] rest = mails_frames (is_beside (Service.Mails q)) r.frame None (scripted_in anew rs [] changes) (other_frames rs) (rest [] changes)
    by (Service.Mails q) (a ∷ as') rest = mails_frames (is_beside (Service.Mails q)) r.frame a (scripted_in anew rs as' changes) (other_frames rs) (rest as' changes)

eras_frames : (gave : List ℕ) (es : List (Era Body Asked Reply)) (behind : Option ℕ) → came_frames (eras_scripted gave es behind) ≡ other_frames (eras_rows es)
eras_frames gave [] behind = refl
eras_frames gave (e ∷ es) behind =
    map-append (λ (s : Scripted). s.frame) (era_scripted (opened_anew gave e.opened (next_opened es behind)) e) (eras_scripted gave es behind)
    ∙ (λ i. era_frames (opened_anew gave e.opened (next_opened es behind)) e.account.started (side_answers e.side) e.account.over i ++ eras_frames gave es behind i)
    ∙ sym (others_append e.account.started (eras_rows es))

life_frames : (l : Life Body Asked Reply) → came_frames (life_scripted l) ≡ other_frames (life_rows l)
life_frames l =
    map-append (λ (s : Scripted). s.frame) (eras_scripted l.gave l.past l.era.opened) (era_scripted None l.era)
    ∙ (λ i. eras_frames l.gave l.past l.era.opened i ++ era_frames None l.era.account.started (side_answers l.era.side) l.era.account.over i)
    ∙ sym (others_append (eras_rows l.past) l.era.account.started)

same_frames : (ss : List Scripted) (ns : List Noted) → AllNoted ss ns → noted_frames ns ≡ came_frames ss
same_frames [] [] h = refl
same_frames [] (n ∷ ns) h = absurd h
same_frames (s ∷ ss) [] h = absurd h
same_frames (s ∷ ss) (n ∷ ns) h = λ i. h.0.0 i ∷ same_frames ss ns h.1 i

one_frame : (o : Origin) (frame : ℕ) (reply : Option (Reply × ℕ)) (more : List Noted) (rest : List ℕ) → noted_frames more ≡ rest → noted_frames (noted_of o frame reply more) ≡ script_frame o frame ++ rest
one_frame (Script number) frame reply more rest e = ap (λ z. frame ∷ z) e
one_frame (Forward number) frame reply more rest e = e
one_frame (Gateway number) frame reply more rest e = e

book_frames : (bs : List Begun) (answers : List Answer) → noted_frames (noted_in bs answers) ≡ script_frames bs
book_frames [] answers = refl
book_frames (b ∷ bs) [] = one_frame b.origin b.frame None (noted_in bs []) (script_frames bs) (book_frames bs [])
book_frames (b ∷ bs) (a ∷ as') = one_frame b.origin b.frame (reply_in a) (noted_in bs as') (script_frames bs) (book_frames bs as')

pub scripts_are : (as' : List Leads) (rows : List SlaveBook) → AllBoth IsBooked as' rows → (k : ℕ) → scripts_at rows k ≡ other_frames (rows_at as' k)
scripts_are [] [] h k = refl
scripts_are [] (row ∷ rows) h k = absurd h
scripts_are (a ∷ as') [] h k = absurd h
scripts_are (a ∷ as') (row ∷ rows) h zero =
    sym (book_frames row.begun row.answers) ∙ same_frames (life_scripted a.lived.life) (noted_in row.begun row.answers) h.0 ∙ life_frames a.lived.life
scripts_are (a ∷ as') (row ∷ rows) h (suc k) = scripts_are as' rows h.1 k

-- ---- when it was given up for good

pub given_are : (recover : ℕ) (as' : List Leads) (rows : List SlaveBook) → gaves_in rows ≡ map gave_of as' → All (IsGivenUp recover) rows → (k : ℕ) → given_up_in rows k ≡ given_up_at recover as' k
given_are recover [] [] e a k = refl
given_are recover [] (row ∷ rows) e a k = absurd (cc)
given_are recover (x ∷ as') [] e a k = absurd (cc)
given_are recover (x ∷ as') (row ∷ rows) e a zero =
    let both : row.gave ∷ gaves_in rows ≡ gave_of x ∷ map gave_of as' = e in
    let same : row.gave ≡ gave_of x = cc in
    All-head (IsGivenUp recover) row rows a ∙ ap (λ z. slice_get z recover) same
given_are recover (x ∷ as') (row ∷ rows) e a (suc k) =
    let both : row.gave ∷ gaves_in rows ≡ gave_of x ∷ map gave_of as' = e in
    let rest : gaves_in rows ≡ map gave_of as' = cc in
    given_are recover as' rows rest (All-tail (IsGivenUp recover) row rows a) k

rows_of_ending : (plan : Scenario) (book : Book) (ending : Ending) → EndsAs plan book ending → ending ≢ endings.NoMemory → HasRows plan book
rows_of_ending plan book endings.Done ends ok = ends.rows
rows_of_ending plan book endings.GivenUp ends ok = ends.rows
rows_of_ending plan book endings.BudgetSpent ends ok = ends.rows
rows_of_ending plan book endings.NoMemory ends ok = absurd (ok refl)
rows_of_ending plan book endings.PortFault ends ok = absurd ends
rows_of_ending plan book endings.Unfinished ends ok = absurd ends

-- AT THE PORT OF EACH SLAVE
pub all_numbers : (plan : Scenario) {fs : List Exchanged} {missed : ℕ} {leads : List Leads} (lives : LeadTo plan fs missed leads) (book : Book) → ListsAll plan lives book.switch → NumbersAll plan lives book.switch book.switched → AllBoth IsBooked leads book.slaves → gaves_in book.slaves ≡ map gave_of leads →
    EndsAs plan book book.ending → book.ending ≢ endings.NoMemory → AllHaveNumbers plan lives book
all_numbers plan {leads = leads} lives book listed numbered booked gave ends ok = λ k port has.
    let ports = ports_behind 0 plan.slaves in
    let many = ports_of plan.slaves in
    let own = own_port plan.slaves k port has in
    let lens = lens_of plan.slaves in
    let given = given_are plan.recover leads book.slaves gave (rows_of_ending plan book book.ending ends ok).given_up k in
    record {
      begun = numbers_begun ports many k port own lives book.switch book.switched numbered ∙ sym (run_packets lens plan plan.retry k lives);
      arrived = numbers_heard ports many k port own lives book.switch book.switched listed numbered;
      down = numbers_down lens plan plan.retry ports many k port own (first_live plan.services 0 plan.slaves 0 k port has) lives book.switch book.switched listed numbered ∙ sym (ap number_behind given);
      quiet = subst (λ (z : List ℕ). All (λ frame. NoneWaits many port (events_up_to frame book.switch book.switched)) z) (sym (scripts_are leads book.slaves booked k ∙ run_others lens plan plan.retry k lives))
          (run_quiet ports many k port own lives book.switch book.switched numbered);
    }

-- THE ROWS OF PACKETS of each slave
pub all_packets : (plan : Scenario) {fs : List Exchanged} {missed : ℕ} {leads : List Leads} (lives : LeadTo plan fs missed leads) (book : Book) → AreNumbered (λ k. frames_begun lives k) (begun_in book.slaves) → AllHavePackets leads book
all_packets plan lives book h = λ k l. h k l ∙ ap (λ z. numbered_from 0 z) (sym (run_packets (lens_of plan.slaves) plan plan.retry k lives))
