-- WHAT IS NOTED OF ALL SLAVES, one after the other.
use Rattle.std.proofs.Common.{◌≡◌, ◌⊎◌, inl, inr, ◌<◌, ◌≤◌, ℕ, zero, suc, Bool, true, false, Option, Some, None, List, [], ◌∷◌, ◌++◌, length, length-append, get_or, refl, ap, sym, ◌∙◌, subst, arith}
use Rattle.std.specs.Prelude.{IfSome, slice_get, slice_set, slice_index_or, nat_lt, is_some, if◌then◌else◌}
use Rattle.std.proofs.lemmas.Bool.{ltb-true, ltb-false, lt-ltb, le-ltb}
use Rattle.run_frames.specs.of_exchange_model.Rows.{Row}
use Rattle.run_frames.specs.of_frame_view.Shares.{AllBoth}
use Rattle.run_frames.specs.of_life_model.Lives.{Stand}
use Rattle.run_frames.specs.of_life_runs.Led.{Leads}
use Rattle.run_notes.specs.Reports.{noted_in, waits_of, Reports, AllReport, KeepsReports, ReportsTo, IsBooked}
use Rattle.run_book.specs.of_link_mails.Body.{Body}
use Rattle.run_frames.specs.of_master_duty.Reply.{Reply}
use Rattle.run_frames.specs.of_mailbox_mail.declared.outcome.ReplyKind.{ReplyKind}
use Rattle.run_frames.specs.of_master_hand.Spoken.{Asked, is_passed}
use Rattle.run_book.specs.of_master_node.Changed.{TellsChange}
use Rattle.run_book.specs.of_master_node.Told.{Tells}
use Rattle.run_book.specs.of_master_node.Wants.{gave_of, IsCounted, AllCounted}
use Rattle.run_book.specs.of_master_node.declared.changed.Changed.{Changed}
use Rattle.run_book.specs.of_master_node.declared.told.Told.{Told}
use Rattle.run_frames.specs.of_master_side.Shown.{HasOver}
use Rattle.run_notes.specs.Notes.{began_script, answered, told_noted, changed_noted, change_noted, given_up, stood}
use Rattle.run_notes.specs.Slaves.{slave_rows}
use Rattle.run_frames.specs.of_life_runs.Spans.{is_leaving, is_open}
use Rattle.run_notes.specs.Epochs.{HasEpochs}
use Rattle.run_notes.specs.Unsent.{IsSpent}
use Rattle.run_frames.specs.ScriptAnswers.{IsNoted, Waits, now_answer}
use Rattle.run_frames.specs.Steps.{EndedSo, TurnsSo, PassesSo, LosesSo}
use Rattle.run_frames.specs.of_segment_model.Ends.{Outcome}
use Rattle.run_frames.specs.of_state_model.Accounts.{Account, Change}
use Rattle.run_notes.specs.declared.notes.Awaited.{Awaited}
use Rattle.run_notes.specs.declared.notes.Notes.{Notes}
use Rattle.run_notes.proofs.Reports.{turn_same, turn_more, pass_still, pass_waits, pass_goes, pass_replied, pass_changed, pass_some, pass_anew, lost_still, lost_given, end_noted, end_spent, end_epochs}
use Rattle.run_book.specs.of_slave_server.declared.server.SlaveServer.{SlaveServer}
use Rattle.run_book.specs.of_slave_node.Node.{Node}

abbrev Held : Type 0
Held = Row Body Asked Reply

-- before the first slave, and behind the last
pub to_first : (as' bs : List Leads) (notes : List Notes) → length bs ≡ length as' → AllReport as' notes → ReportsTo 0 as' bs notes
to_first [] [] [] e r = tt
to_first [] [] (n ∷ notes) e r = absurd r
to_first [] (b ∷ bs) notes e r = absurd (omega (arith, e))
to_first (a ∷ as') [] notes e r = absurd (omega (arith, e))
to_first (a ∷ as') (b ∷ bs) [] e r = absurd r
to_first (a ∷ as') (b ∷ bs) (n ∷ notes) e r = (r.0, to_first as' bs notes (omega (arith, e)) r.1)

pub to_last : (k : ℕ) (as' bs : List Leads) (notes : List Notes) → length notes ≤ k → ReportsTo k as' bs notes → AllReport bs notes
to_last k [] [] [] e r = tt
to_last k [] [] (n ∷ notes) e r = absurd r
to_last k [] (b ∷ bs) notes e r = absurd r
to_last zero (a ∷ as') [] notes e r = absurd r
to_last (suc k) (a ∷ as') [] notes e r = absurd r
to_last zero (a ∷ as') (b ∷ bs) [] e r = absurd r
to_last (suc k) (a ∷ as') (b ∷ bs) [] e r = absurd r
to_last zero (a ∷ as') (b ∷ bs) (n ∷ notes) e r = absurd (omega (arith, e))
to_last (suc k) (a ∷ as') (b ∷ bs) (n ∷ notes) e r = (r.0, to_last k as' bs notes (omega (arith, e)) r.1)

-- one slave more, of which this may be noted
pub to_next : (P : Leads → Leads → Type 0) (k : ℕ) (as' bs : List Leads) (notes : List Notes) (n m : Notes) → AllBoth P as' bs → slice_get notes k ≡ Some n → ((a b : Leads) → slice_get bs k ≡ Some b → P a b → Reports a n → Reports b m) →
    ReportsTo k as' bs notes → ReportsTo (suc k) as' bs (slice_set notes k m)
to_next P k [] [] [] n m p e h r = absurd (none_there k e)
  where
    none_there : (k : ℕ) → slice_get [] k ≡ Some n → ⊥
    none_there zero e = absurd (cc)
    none_there (suc k) e = absurd (cc)
to_next P k [] [] (o ∷ notes) n m p e h r = absurd r
to_next P k [] (b ∷ bs) notes n m p e h r = absurd r
to_next P zero (a ∷ as') [] notes n m p e h r = absurd r
to_next P (suc k) (a ∷ as') [] notes n m p e h r = absurd r
to_next P zero (a ∷ as') (b ∷ bs) [] n m p e h r = absurd r
to_next P (suc k) (a ∷ as') (b ∷ bs) [] n m p e h r = absurd r
to_next P zero (a ∷ as') (b ∷ bs) (o ∷ notes) n m p e h r = let same : o ≡ n = cc in (h a b refl p.0 (subst (λ (z : Notes). Reports a z) same r.0), r.1)
to_next P (suc k) (a ∷ as') (b ∷ bs) (o ∷ notes) n m p e h r = (r.0, to_next P k as' bs notes n m p.1 e (λ c d f. h c d f) r.1)

-- where nothing is noted
pub to_same : (P : Leads → Leads → Type 0) (k : ℕ) (as' bs : List Leads) (notes : List Notes) (n : Notes) → AllBoth P as' bs → slice_get notes k ≡ Some n → ((a b : Leads) → slice_get bs k ≡ Some b → P a b → Reports a n → Reports b n) →
    ReportsTo k as' bs notes → ReportsTo (suc k) as' bs notes
to_same P k [] [] [] n p e h r = tt
to_same P k [] [] (o ∷ notes) n p e h r = absurd r
to_same P k [] (b ∷ bs) notes n p e h r = absurd r
to_same P zero (a ∷ as') [] notes n p e h r = absurd r
to_same P (suc k) (a ∷ as') [] notes n p e h r = absurd r
to_same P zero (a ∷ as') (b ∷ bs) [] n p e h r = absurd r
to_same P (suc k) (a ∷ as') (b ∷ bs) [] n p e h r = absurd r
to_same P zero (a ∷ as') (b ∷ bs) (o ∷ notes) n p e h r =
    let same : o ≡ n = cc in (subst (λ (z : Notes). Reports b z) (sym same) (h a b refl p.0 (subst (λ (z : Notes). Reports a z) same r.0)), r.1)
to_same P (suc k) (a ∷ as') (b ∷ bs) (o ∷ notes) n p e h r = (r.0, to_same P k as' bs notes n p.1 e (λ c d f. h c d f) r.1)

-- what is known of the slave at a place
pub known : (Q : Leads → Type 0) (bs : List Leads) (k : ℕ) (b : Leads) → slice_get bs k ≡ Some b → IfSome (slice_get bs k) Q → Q b
known Q bs k b e q = subst (λ (o : Option Leads). IfSome o Q) e q

-- ONE OF THEM is noted anew
pub set_reports : (notes : List Notes) (k : ℕ) (n m : Notes) → n ≡ slice_index_or notes k n → ((a : Leads) → Reports a n → Reports a m) → KeepsReports notes (slice_set notes k m)
set_reports [] k n m e h [] r = r
set_reports [] k n m e h (a ∷ as') r = absurd r
set_reports (o ∷ notes) k n m e h [] r = absurd r
set_reports (o ∷ notes) zero n m e h (a ∷ as') r = (h a (subst (λ (z : Notes). Reports a z) (sym e) r.0), r.1)
set_reports (o ∷ notes) (suc k) n m e h (a ∷ as') r = (r.0, set_reports notes k n m e h as' r.1)

pub keeps_more : {a b c : List Notes} → KeepsReports a b → KeepsReports b c → KeepsReports a c
keeps_more h k = λ as' r. k as' (h as' r)

-- at the place where it was read
pub got_there : (notes : List Notes) (k : ℕ) (n : Notes) → k < length notes → n ≡ get_or notes k n → slice_get notes k ≡ Some n
got_there [] k n l e = absurd (omega (arith, l))
got_there (o ∷ notes) zero n l e = ap (λ (z : Notes). Some z) (sym e)
got_there (o ∷ notes) (suc k) n l e = got_there notes k n (omega (arith, l)) e

-- AT THE END
pub all_booked : (recover : ℕ) (leads : List Leads) (nodes : List (Node SlaveServer)) (notes : List Notes) → length notes ≡ length nodes → AllReport leads notes → AllBoth IsBooked leads (slave_rows recover nodes notes)
all_booked recover [] [] [] e r = tt
all_booked recover [] (node ∷ nodes) [] e r = tt
all_booked recover [] nodes (n ∷ notes) e r = absurd r
all_booked recover (a ∷ as') nodes [] e r = absurd r
all_booked recover (a ∷ as') [] (n ∷ notes) e r = absurd (omega (arith, e))
all_booked recover (a ∷ as') (node ∷ nodes) (n ∷ notes) e r = (end_noted a n r.0, all_booked recover as' nodes notes (omega (arith, e)) r.1)

pub all_spent : (recover : ℕ) (leads : List Leads) (nodes : List (Node SlaveServer)) (notes : List Notes) → length notes ≡ length nodes → AllReport leads notes → AllBoth IsSpent leads (slave_rows recover nodes notes)
all_spent recover [] [] [] e r = tt
all_spent recover [] (node ∷ nodes) [] e r = tt
all_spent recover [] nodes (n ∷ notes) e r = absurd r
all_spent recover (a ∷ as') nodes [] e r = absurd r
all_spent recover (a ∷ as') [] (n ∷ notes) e r = absurd (omega (arith, e))
all_spent recover (a ∷ as') (node ∷ nodes) (n ∷ notes) e r = (end_spent a recover node n r.0, all_spent recover as' nodes notes (omega (arith, e)) r.1)

pub all_epochs : (recover : ℕ) (leads : List Leads) (nodes : List (Node SlaveServer)) (notes : List Notes) → length notes ≡ length nodes → AllReport leads notes → AllBoth HasEpochs leads (slave_rows recover nodes notes)
all_epochs recover [] [] [] e r = tt
all_epochs recover [] (node ∷ nodes) [] e r = tt
all_epochs recover [] nodes (n ∷ notes) e r = absurd r
all_epochs recover (a ∷ as') nodes [] e r = absurd r
all_epochs recover (a ∷ as') [] (n ∷ notes) e r = absurd (omega (arith, e))
all_epochs recover (a ∷ as') (node ∷ nodes) (n ∷ notes) e r = (end_epochs a recover node n r.0, all_epochs recover as' nodes notes (omega (arith, e)) r.1)

pub both_lengths : {A B : Type 0} (P : A → B → Type 0) (as' : List A) (bs : List B) → AllBoth P as' bs → length bs ≡ length as'
both_lengths P [] [] h = refl
both_lengths P [] (b ∷ bs) h = absurd h
both_lengths P (a ∷ as') [] h = absurd h
both_lengths P (a ∷ as') (b ∷ bs) h = let more = both_lengths P as' bs h.1 in omega (arith, more)

-- what is awaited at a place
pub awaited_at : (w : Awaited) (notes : List Notes) (k : ℕ) (n : Notes) → slice_get notes k ≡ Some n → IfSome (slice_get notes k) (λ (m : Notes). m.awaited ≡ w) → n.awaited ≡ w
awaited_at w notes k n e h = subst (λ (o : Option Notes). IfSome o (λ (m : Notes). m.awaited ≡ w)) e h

pub awaited_there : (w : Awaited) (notes : List Notes) (k : ℕ) (n : Notes) → slice_get notes k ≡ Some n → n.awaited ≡ w → IfSome (slice_get notes k) (λ (m : Notes). m.awaited ≡ w)
awaited_there w notes k n e h = subst (λ (o : Option Notes). IfSome o (λ (m : Notes). m.awaited ≡ w)) (sym e) h

-- the same stands there, read twice
pub same_whole : (notes : List Notes) (k : ℕ) (n d : Notes) → slice_get notes k ≡ Some n → slice_get notes k ≡ Some d → d ≡ n
same_whole notes k n d e f = some_same (sym f ∙ e)
  where
    some_same : Some d ≡ Some n → d ≡ n
    some_same h = cc

-- BEHIND A LOSS: by how often its master says that the slave was given up
module _ (recover frame : ℕ) (a b : Leads) (n : Notes) (q : LosesSo frame a b) (r : Reports a n) where
  counted_at : (bs : List Leads) (k : ℕ) → slice_get bs k ≡ Some b → AllCounted recover bs → IsCounted recover b.lived.life.stand (length (gave_of b))
  counted_at [] zero e c = absurd (cc)
  counted_at [] (suc k) e c = absurd (cc)
  counted_at (d ∷ bs) zero e c = let same : d ≡ b = cc in subst (λ (z : Leads). IsCounted recover z.lived.life.stand (length (gave_of z))) same c.0
  counted_at (d ∷ bs) (suc k) e c = counted_at bs k e c.1

  tells : (k : ℕ) (bs : List Leads) → slice_get bs k ≡ Some b → AllCounted recover bs → (more : Bool) (times : ℕ) → times ≡ length n.gave →
      IfSome (slice_get bs k) (λ a. IsCounted recover a.lived.life.stand (length (gave_of a)) → more ≡ nat_lt times (length (gave_of a))) → more ≡ nat_lt (length (gave_of a)) (length (gave_of b))
  tells k bs e all more times t x =
      known (λ d. IsCounted recover d.lived.life.stand (length (gave_of d)) → more ≡ nat_lt times (length (gave_of d))) bs k b e x (counted_at bs k e all)
      ∙ ap (λ (m : ℕ). nat_lt m (length (gave_of b))) (t ∙ ap length r.gave)

  pub loss_same : (bs : List Leads) → AllCounted recover bs → (k : ℕ) → slice_get bs k ≡ Some b → (more : Bool) (times : ℕ) → times ≡ length n.gave → more ≡ false →
      IfSome (slice_get bs k) (λ a. IsCounted recover a.lived.life.stand (length (gave_of a)) → more ≡ nat_lt times (length (gave_of a))) → Reports b n
  loss_same bs all k e more times t is_not x = by q.gave
    where
      by : (gave_of b ≡ gave_of a) ⊎ (gave_of b ≡ gave_of a ++ frame ∷ []) → Reports b n
      by (inl same) = lost_still frame a b n q r same
      by (inr one) =
          let m = tells k bs e all more times t x in
          let over = ltb-false (length (gave_of a)) (length (gave_of b)) (sym m ∙ is_not) in
          let long = ap length one ∙ length-append (gave_of a) (frame ∷ []) in
          absurd (omega (arith, over, long))

  pub loss_more : (bs : List Leads) → AllCounted recover bs → (k : ℕ) → slice_get bs k ≡ Some b → (more : Bool) (times : ℕ) → times ≡ length n.gave → more ≡ true →
      IfSome (slice_get bs k) (λ a. IsCounted recover a.lived.life.stand (length (gave_of a)) → more ≡ nat_lt times (length (gave_of a))) → (leaves : Bool) → IfSome (slice_get bs k) (λ a. leaves ≡ is_leaving a.lived.life.stand) → Reports b (given_up n leaves frame)
  loss_more bs all k e more times t is_so x leaves y = by q.gave
    where
      by : (gave_of b ≡ gave_of a) ⊎ (gave_of b ≡ gave_of a ++ frame ∷ []) → Reports b (given_up n leaves frame)
      by (inr one) = lost_given frame a b n q r leaves (known (λ d. leaves ≡ is_leaving d.lived.life.stand) bs k b e y) one
      by (inl same) =
          let m = tells k bs e all more times t x in
          let below = ltb-true (length (gave_of a)) (length (gave_of b)) (sym m ∙ is_so) in
          let long = ap length same in
          absurd (omega (arith, below, long))

-- BEFORE A FRAME: by the number that its master tells
module _ (frame : ℕ) (a b : Leads) (n : Notes) (q : TurnsSo frame a b) (r : Reports a n) where
  pub script_same : (bs : List Leads) (k : ℕ) → slice_get bs k ≡ Some b → (number : ℕ) → number ≤ n.scripted → IfSome (slice_get bs k) (λ a. number ≡ a.number) → Reports b n
  script_same bs k e number few x =
      let is = known (λ d. number ≡ d.number) bs k b e x in
      turn_same frame a b n q r (le-ltb n.scripted b.number (omega (arith, few, is)))

  pub script_more : (bs : List Leads) (k : ℕ) → slice_get bs k ≡ Some b → (number : ℕ) → n.scripted < number → IfSome (slice_get bs k) (λ a. number ≡ a.number) → (state : Bool) →
      IfSome (slice_get bs k) (λ a. a.lived.life.stand ≡ Stand.Open → state ≡ is_some a.lived.life.era.account.hand) → Reports b (began_script n number state frame)
  script_more bs k e number more x state y =
      let is = known (λ d. number ≡ d.number) bs k b e x in
      let shown = known (λ d. d.lived.life.stand ≡ Stand.Open → state ≡ is_some d.lived.life.era.account.hand) bs k b e y in
      subst (λ (m : ℕ). Reports b (began_script n m state frame)) (sym is) (turn_more frame a b n q r (lt-ltb n.scripted b.number (omega (arith, more, is))) state shown)

-- BEHIND A RETURN: by what it tells of the newest service, and by how it stands to the slave
module _ (frame : ℕ) (a b : Leads) (n : Notes) (q : PassesSo frame a b) (r : Reports a n) (leaves opens : Bool) (bs : List Leads) (k : ℕ) (e : slice_get bs k ≡ Some b) (f : IfSome (slice_get bs k) (λ a. leaves ≡ is_leaving a.lived.life.stand))
    (g : IfSome (slice_get bs k) (λ a. opens ≡ is_open a.lived.life.stand)) where
  leaves_is : leaves ≡ is_leaving b.lived.life.stand
  leaves_is = known (λ d. leaves ≡ is_leaving d.lived.life.stand) bs k b e f

  opens_is : opens ≡ is_open b.lived.life.stand
  opens_is = known (λ d. opens ≡ is_open d.lived.life.stand) bs k b e g

  pub reply_none : n.awaited ≡ Awaited.Nothing → Reports b (stood n leaves opens frame)
  reply_none is = pass_still frame a b n q r leaves opens leaves_is opens_is is

  no_row : (now : Option Held) → ((row : Held) → now ≡ Some row → row.answer ≡ None) → now_answer now ≡ None
  no_row None h = refl
  no_row (Some row) h = h row refl

  module _ (is_so : n.awaited ≡ Awaited.Reply) where
    awaits : IsNoted a Waits.reply n.scripted (noted_in n.begun n.answers)
    awaits = subst (λ (z : Awaited). IsNoted a (waits_of z) n.scripted (noted_in n.begun n.answers)) is_so r.told

    stands : b.lived.life.stand ≡ Stand.Open
    stands = q.reply.up n.scripted (noted_in n.begun n.answers) awaits

    said : (told : Told) (value : List ℕ) → IfSome (slice_get bs k) (λ a. a.lived.life.stand ≡ Stand.Open → Tells told [] value a.lived.life.era.side.now) → Tells told [] value b.lived.life.era.side.now
    said told value x = known (λ d. d.lived.life.stand ≡ Stand.Open → Tells told [] value d.lived.life.era.side.now) bs k b e x stands

    -- no mail is passed on by a service of the script
    none_passed : (now : Option Held) → b.lived.life.era.side.now ≡ now → ((row : Held) → now ≡ Some row → is_passed row.service ≡ true) → now_answer now ≡ None
    none_passed None f h = refl
    none_passed (Some row) f h = absurd (q.reply.own n.scripted (noted_in n.begun n.answers) row awaits f (h row refl))

    pub reply_told : (told : Told) (value : List ℕ) → IfSome (slice_get bs k) (λ a. a.lived.life.stand ≡ Stand.Open → Tells told [] value a.lived.life.era.side.now) → Reports b (stood (told_noted told value frame n) leaves opens frame)
    reply_told Told.Waits value x = pass_waits frame a b n q r leaves opens leaves_is opens_is is_so (no_row b.lived.life.era.side.now (said Told.Waits value x))
    reply_told Told.Unknown value x = pass_waits frame a b n q r leaves opens leaves_is opens_is is_so (none_passed b.lived.life.era.side.now refl (said Told.Unknown value x))
    reply_told (Told.Answered kind) value x =
        let s = said (Told.Answered kind) value x in
        let has = s.2 in
        let same : Some (Some (kind, s.0), has.frame) ≡ Some (Some (kind, value), has.frame) = ap (λ (v : List ℕ). Some (Some (kind, v), has.frame)) (sym s.1) in
        pass_replied frame a b n q r leaves opens leaves_is opens_is (record { kind = kind; value = value }) has.frame is_so (ap now_answer has.is ∙ has.answer ∙ same)

  open_stand : (stand : Stand) → is_open stand ≡ true → stand ≡ Stand.Open
  open_stand (Stand.Opens o) h = absurd (let bad : false ≡ true = h in cc)
  open_stand Stand.Open h = refl
  open_stand Stand.Gone h = absurd (let bad : false ≡ true = h in cc)

  ended : (over : List (Change Reply)) (outcome : Outcome Reply) → HasOver over outcome → EndedSo over outcome
  ended over outcome h = record { front = h.front; change = h.change; whole = h.is; is = h.answered }

  module _ (is_so : n.awaited ≡ Awaited.Change) where
    abbrev account : Account Asked Reply
    account = b.lived.life.era.account

    -- by what is told of a slave that was open and is
    by_change : (changed : Changed) → n.up ≡ true → opens ≡ true → TellsChange changed account → Reports b (stood (changed_noted changed frame n) leaves opens frame)
    by_change Changed.Nothing up o t = pass_some frame a b n q r leaves opens leaves_is opens_is is_so up o t.0 t.1
    by_change Changed.Going up o t = pass_goes frame a b n q r leaves opens leaves_is opens_is is_so (λ h. (up, ap is_some t.1))
    by_change Changed.Reached up o t = pass_changed frame a b n q r leaves opens leaves_is opens_is (record { kind = ReplyKind.Done; value = [] }) Outcome.Reached refl is_so up o t.0 (ended account.over Outcome.Reached t.1)
    by_change (Changed.Refused code) up o t = pass_changed frame a b n q r leaves opens leaves_is opens_is (record { kind = ReplyKind.StateRefused code; value = [] }) (Outcome.Refused code) refl is_so up o t.0 (ended account.over (Outcome.Refused code) t.1)

    pub reply_changed : (changed : Changed) → IfSome (slice_get bs k) (λ a. a.lived.life.stand ≡ Stand.Open → TellsChange changed a.lived.life.era.account) → Reports b (stood (change_noted opens changed frame n) leaves opens frame)
    reply_changed changed x = by opens n.up refl refl
      where
        by : (o u : Bool) → opens ≡ o → n.up ≡ u → Reports b (stood (if o then (if u then changed_noted changed frame n else answered n (record { kind = ReplyKind.Done; value = [] }) frame) else n) leaves opens frame)
        by true true o u = by_change changed u o (known (λ d. d.lived.life.stand ≡ Stand.Open → TellsChange changed d.lived.life.era.account) bs k b e x (open_stand b.lived.life.stand (sym opens_is ∙ o)))
        by true false o u = pass_anew frame a b n q r leaves opens leaves_is opens_is is_so u o
        by false u o f = pass_goes frame a b n q r leaves opens leaves_is opens_is is_so (λ h. absurd (let bad : true ≡ false = sym h ∙ o in cc))
