-- WHAT IS NOTED OF ONE SLAVE goes with its life: over events, what comes into hand, returns and losses.
use Rattle.std.proofs.Common.{◌≡◌, ◌⊎◌, inl, inr, ℕ, zero, suc, ◌-◌, Bool, true, false, Option, Some, None, List, [], ◌∷◌, ◌++◌, length, length-append, refl, ap, sym, ◌∙◌, subst, arith, append_assoc, append-nil, replicate}
use Rattle.std.proofs.lemmas.Bool.{ltb-true}
use Rattle.std.specs.Prelude.{◌&&◌, nat_lt, is_some, if◌then◌else◌}
use Rattle.run_frames.specs.of_life_model.Lives.{Stand}
use Rattle.run_frames.specs.of_life_runs.Led.{Leads}
use Rattle.run_frames.specs.of_mailbox_mail.declared.outcome.ReplyKind.{ReplyKind}
use Rattle.run_frames.specs.of_master_duty.Reply.{Reply}
use Rattle.run_book.specs.of_master_node.Wants.{gave_of}
use Rattle.run_book.specs.of_master_node.declared.event.Origin.{Origin}
use Rattle.run_book.specs.of_master_node.declared.event.Origin.TheVariants.{Script, Forward, Gateway}
use Rattle.run_book.specs.declared.book.Answer.{Answer}
use Rattle.run_book.specs.declared.book.Answer.TheVariants.{Replied, InDoubt, NotSent}
use Rattle.run_book.specs.declared.book.Begun.{Begun}
use Rattle.run_book.specs.declared.book.Reply.{Reply as Booked}
use Rattle.run_notes.specs.Notes.{answers_doubted, awaits_nothing, awaited_by, began, began_where, began_script, answered, answered_where, given_up, epochs_stood, stood, ended}
use Rattle.run_notes.specs.Reports.{reply_in, noted_of, noted_in, waits_of, unanswered, LastScript, Reports}
use Rattle.run_notes.specs.Slaves.{slave_row}
use Rattle.run_frames.specs.of_life_runs.Spans.{is_leaving, is_open}
use Rattle.run_notes.specs.Epochs.{IsMarked, HasEpochs}
use Rattle.run_notes.proofs.Epochs.{marked_turn, marked_back, marked_lost, marked_given}
use Rattle.run_notes.specs.Unsent.{first_numbers, IsNumbered, IsSpent}
use Rattle.run_notes.proofs.Unsent.{IsOther, sent_more, other_more, script_more}
use Rattle.run_notes.specs.declared.notes.Awaited.{Awaited}
use Rattle.run_notes.specs.declared.notes.Notes.{Notes}
use Rattle.run_frames.specs.ScriptAnswers.{Noted, AllNoted, IsNoted, Waits, life_scripted, newest_answer, reply_by}
use Rattle.run_frames.specs.Steps.{EndedSo, TurnsSo, PassesSo, LosesSo, account_of, awaited, with_begun, with_reply}
use Rattle.run_frames.specs.of_segment_model.Ends.{Outcome}
use Rattle.run_book.specs.of_slave_server.declared.server.SlaveServer.{SlaveServer}
use Rattle.run_book.specs.of_slave_node.Node.{Node}

-- ONE ANSWER MORE, which is no reply
of_more : (o : Origin) (frame : ℕ) (reply : Option (Reply × ℕ)) (ns ms : List Noted) → noted_of o frame reply (ns ++ ms) ≡ noted_of o frame reply ns ++ ms
of_more (Script number) frame reply ns ms = refl
of_more (Forward number) frame reply ns ms = refl
of_more (Gateway number) frame reply ns ms = refl

pub no_reply : (bs : List Begun) (answers : List Answer) (answer : Answer) → reply_in answer ≡ None → noted_in bs (answers ++ answer ∷ []) ≡ noted_in bs answers
no_reply [] answers answer e = refl
no_reply (b ∷ bs) [] answer e = ap (λ r. noted_of b.origin b.frame r (noted_in bs [])) e
no_reply (b ∷ bs) (a ∷ as') answer e = ap (λ ns. noted_of b.origin b.frame (reply_in a) ns) (no_reply bs as' answer e)

-- one service more, each before it answered
pub noted_begun : (bs : List Begun) (answers : List Answer) (b : Begun) → length bs ≡ length answers → noted_in (bs ++ b ∷ []) answers ≡ noted_in bs answers ++ noted_of b.origin b.frame None []
noted_begun [] [] b e = refl
noted_begun [] (a ∷ as') b e = absurd (omega (arith, e))
noted_begun (c ∷ bs) [] b e = absurd (omega (arith, e))
noted_begun (c ∷ bs) (a ∷ as') b e = ap (λ ns. noted_of c.origin c.frame (reply_in a) ns) (noted_begun bs as' b (omega (arith, e))) ∙ of_more c.origin c.frame (reply_in a) (noted_in bs as') (noted_of b.origin b.frame None [])

-- and its answer
pub noted_answer : (bs : List Begun) (answers : List Answer) (b : Begun) (answer : Answer) → length bs ≡ length answers → noted_in (bs ++ b ∷ []) (answers ++ answer ∷ []) ≡ noted_in bs answers ++ noted_of b.origin b.frame (reply_in answer) []
noted_answer [] [] b answer e = refl
noted_answer [] (a ∷ as') b answer e = absurd (omega (arith, e))
noted_answer (c ∷ bs) [] b answer e = absurd (omega (arith, e))
noted_answer (c ∷ bs) (a ∷ as') b answer e =
    ap (λ ns. noted_of c.origin c.frame (reply_in a) ns) (noted_answer bs as' b answer (omega (arith, e))) ∙ of_more c.origin c.frame (reply_in a) (noted_in bs as') (noted_of b.origin b.frame (reply_in answer) [])

-- IN DOUBT
no_wait : {P : Type 0} → false ≡ true → P
no_wait bad = absurd (let no : false ≡ true = bad in cc)

no_await : {P : Type 0} → true ≡ false → P
no_await bad = absurd (let no : true ≡ false = bad in cc)

-- nothing is awaited
nothing_is : (w : Awaited) → awaits_nothing w ≡ true → waits_of w ≡ Waits.nothing
nothing_is Awaited.Nothing e = refl
nothing_is Awaited.Reply e = no_wait e
nothing_is Awaited.Change e = no_wait e

module _ (a : Leads) (n : Notes) (r : Reports a n) where
  -- each service has an answer then, and no reply is reported but those that were
  pub all_answered : length n.begun ≡ length (answers_doubted n)
  all_answered = by n.in_hand refl
    where
      by : (h : Bool) → n.in_hand ≡ h → length n.begun ≡ length (if h then n.answers ++ InDoubt ∷ [] else n.answers)
      by true e = let k = length-append n.answers (InDoubt ∷ []) in let m = r.aligned in let u = ap unanswered e in omega (arith, k, m, u)
      by false e = let m = r.aligned in let u = ap unanswered e in omega (arith, m, u)

  pub doubted_same : noted_in n.begun (answers_doubted n) ≡ noted_in n.begun n.answers
  doubted_same = by n.in_hand
    where
      by : (h : Bool) → noted_in n.begun (if h then n.answers ++ InDoubt ∷ [] else n.answers) ≡ noted_in n.begun n.answers
      by true = no_reply n.begun n.answers InDoubt refl
      by false = refl

  pub doubted_numbered : IsNumbered (length a.script) n.begun (answers_doubted n) n.scripted n.left
  doubted_numbered = by n.in_hand
    where
      by : (h : Bool) → IsNumbered (length a.script) n.begun (if h then n.answers ++ InDoubt ∷ [] else n.answers) n.scripted n.left
      by true = record { numbers = r.rest.numbers; sent = sent_more n.answers InDoubt r.rest.sent tt; left = r.rest.left }
      by false = r.rest

  -- ANOTHER SERVICE came into hand, that is none of the script
  not_noted : (o : Origin) → IsOther o → (frame : ℕ) (reply : Option (Reply × ℕ)) → noted_of o frame reply [] ≡ []
  not_noted (Script number) other frame reply = absurd other
  not_noted (Forward number) other frame reply = refl
  not_noted (Gateway number) other frame reply = refl

  began_so : (o : Origin) (frame : ℕ) → IsOther o → awaits_nothing n.awaited ≡ true → Reports a (began n o frame)
  began_so o frame other nothing =
      let one : Begun = record { origin = o; frame = frame } in
      let answers = answers_doubted n in
      let same : noted_in (n.begun ++ one ∷ []) answers ≡ noted_in n.begun answers = noted_begun n.begun answers one all_answered ∙ ap (λ ns. noted_in n.begun answers ++ ns) (not_noted o other frame None) ∙ append-nil (noted_in n.begun answers) in
      let more : (answer : Answer) → noted_in (n.begun ++ one ∷ []) (answers ++ answer ∷ []) ≡ noted_in n.begun answers =
      λ answer. noted_answer n.begun answers one answer all_answered ∙ ap (λ ns. noted_in n.begun answers ++ ns) (not_noted o other frame (reply_in answer)) ∙ append-nil (noted_in n.begun answers) in
      record {
        told = subst (λ ns. IsNoted a Waits.nothing n.scripted ns) (sym (same ∙ doubted_same)) (subst (λ (w : Waits). IsNoted a w n.scripted (noted_in n.begun n.answers)) (nothing_is n.awaited nothing) r.told);
        aligned = (let k = length-append n.begun (one ∷ []) in let all = all_answered in omega (arith, k, all));
        last = λ bad. no_await bad;
        other = λ h f answer. more answer ∙ sym same;
        gave = r.gave;
        rest = other_more (length a.script) n.begun answers n.scripted n.left frame doubted_numbered o other;
        marked = r.marked;
      }

  pub began_reports : (o : Origin) (frame : ℕ) → IsOther o → Reports a (began_where n o frame)
  began_reports o frame other = by (awaits_nothing n.awaited) refl
    where
      by : (b : Bool) → awaits_nothing n.awaited ≡ b → Reports a (if b then began n o frame else n)
      by true e = began_so o frame other e
      by false e = r

  -- and is answered
  answered_so : (reply : Booked) (frame : ℕ) → n.in_hand ≡ true → awaits_nothing n.awaited ≡ true → Reports a (answered n reply frame)
  answered_so reply frame h w = record {
    told = subst (λ ns. IsNoted a Waits.nothing n.scripted ns) (sym (r.other h w (Replied reply frame))) (subst (λ (z : Waits). IsNoted a z n.scripted (noted_in n.begun n.answers)) (nothing_is n.awaited w) r.told);
    aligned = (let k = length-append n.answers (Replied reply frame ∷ []) in let z = r.aligned in let u = ap unanswered h in omega (arith, k, z, u));
    last = λ bad. no_await bad;
    other = λ bad f answer. no_wait bad;
    gave = r.gave;
    rest = record { numbers = r.rest.numbers; sent = sent_more n.answers (Replied reply frame) r.rest.sent tt; left = r.rest.left };
    marked = r.marked;
  }

  pub answered_reports : (reply : Booked) (frame : ℕ) → Reports a (answered_where n reply frame)
  answered_reports reply frame = by n.in_hand (awaits_nothing n.awaited) refl refl
    where
      by : (h w : Bool) → n.in_hand ≡ h → awaits_nothing n.awaited ≡ w → Reports a (if h && w then answered n reply frame else n)
      by true true e f = answered_so reply frame e f
      by true false e f = r
      by false w e f = r

-- of the same script
same_script : (a b : Leads) (begun : List Begun) (answers : List Answer) (count left : ℕ) → b.script ≡ a.script → IsNumbered (length a.script) begun answers count left → IsNumbered (length b.script) begun answers count left
same_script a b begun answers count left e r = subst (λ ss. IsNumbered (length ss) begun answers count left) (sym e) r

-- BEFORE A FRAME
module _ (made : ℕ) (a b : Leads) (n : Notes) (t : TurnsSo made a b) (r : Reports a n) where
  pub turn_same : nat_lt n.scripted b.number ≡ false → Reports b n
  turn_same e =
      let s = t.turns (waits_of n.awaited) n.scripted (noted_in n.begun n.answers) r.told in
      record {
        told = s.same e;
        aligned = r.aligned;
        last = r.last;
        other = r.other;
        gave = r.gave ∙ sym t.gave;
        rest = same_script a b n.begun n.answers n.scripted n.left t.goes.script r.rest;
        marked = marked_turn a b n r.marked t.epochs;
      }

  -- one service more
  next_number : nat_lt n.scripted b.number ≡ true → b.number ≡ suc n.scripted
  next_number e = by t.goes.number
    where
      by : (b.number ≡ a.number) ⊎ (b.number ≡ suc a.number) → b.number ≡ suc n.scripted
      by (inl same) = absurd (let k = ltb-true n.scripted b.number e in let m = r.told.many in omega (arith, k, m, same))
      by (inr more) = more ∙ ap suc (sym r.told.many)

  waits_by : (state : Bool) → waits_of (awaited_by state) ≡ awaited state
  waits_by true = refl
  waits_by false = refl

  never_nothing : {P : Type 0} (state : Bool) → awaits_nothing (awaited_by state) ≡ true → P
  never_nothing true e = no_wait e
  never_nothing false e = no_wait e

  pub turn_more : nat_lt n.scripted b.number ≡ true → (state : Bool) → (b.lived.life.stand ≡ Stand.Open → state ≡ is_some b.lived.life.era.account.hand) → Reports b (began_script n b.number state made)
  turn_more e state shown =
      let all = all_answered a n r in
      let answers = answers_doubted n in
      let old = noted_in n.begun n.answers in
      let s = (t.turns (waits_of n.awaited) n.scripted old r.told).more e state shown in
      let one : Begun = record { origin = Script n.scripted; frame = made } in
      let same : noted_in (n.begun ++ one ∷ []) answers ≡ with_begun made old = noted_begun n.begun answers one all ∙ ap (λ ns. with_begun made ns) (doubted_same a n r) in
      record {
        told = subst (λ (w : Waits). IsNoted b w b.number (noted_in (n.begun ++ one ∷ []) answers)) (sym (waits_by state)) (subst (λ ns. IsNoted b (awaited state) b.number ns) (sym same) s);
        aligned = (let k = length-append n.begun (one ∷ []) in omega (arith, k, all));
        last = λ w. record { front = n.begun; number = n.scripted; frame = made; last = refl; beside = all };
        other = λ h f answer. never_nothing state f;
        gave = r.gave ∙ sym t.gave;
        rest = subst (λ (k : ℕ). IsNumbered (length b.script) (n.begun ++ one ∷ []) answers k (n.left - 1)) (sym (next_number e))
            (script_more (length b.script) n.begun answers n.scripted n.left made (same_script a b n.begun answers n.scripted n.left t.goes.script (doubted_numbered a n r)));
        marked = marked_turn a b n r.marked t.epochs;
      }

-- BEHIND A RETURN
module _ (made : ℕ) (a b : Leads) (n : Notes) (p : PassesSo made a b) (r : Reports a n) (leaves opens : Bool) (leaves_is : leaves ≡ is_leaving b.lived.life.stand) (opens_is : opens ≡ is_open b.lived.life.stand) where
  now_marked : IsMarked b (epochs_stood n leaves opens made) leaves opens
  now_marked = marked_back a b n r.marked made leaves opens p.epochs leaves_is opens_is

  answered_marked : (reply : Booked) → IsMarked b (epochs_stood (answered n reply made) leaves opens made) leaves opens
  answered_marked reply = marked_back a b (answered n reply made) r.marked made leaves opens p.epochs leaves_is opens_is

  abbrev noted : List Noted
  noted = noted_in n.begun n.answers

  -- of one of which this is awaited
  awaited_is : (w : Awaited) → n.awaited ≡ w → IsNoted a (waits_of w) n.scripted noted
  awaited_is w e = subst (λ (z : Awaited). IsNoted a (waits_of z) n.scripted noted) e r.told

  -- it is noted as before
  goes_on : IsNoted b (waits_of n.awaited) n.scripted noted → Reports b (stood n leaves opens made)
  goes_on told = record {
    told = told;
    aligned = r.aligned;
    last = r.last;
    other = r.other;
    gave = r.gave ∙ sym p.gave;
    rest = same_script a b n.begun n.answers n.scripted n.left p.same.script r.rest;
    marked = now_marked;
  }

  on_by : (w : Awaited) → n.awaited ≡ w → IsNoted b (waits_of w) n.scripted noted → Reports b (stood n leaves opens made)
  on_by w e told = goes_on (subst (λ (z : Awaited). IsNoted b (waits_of z) n.scripted noted) (sym e) told)

  pub pass_still : n.awaited ≡ Awaited.Nothing → Reports b (stood n leaves opens made)
  pass_still e = on_by Awaited.Nothing e (p.still n.scripted noted (awaited_is Awaited.Nothing e))

  pub pass_waits : n.awaited ≡ Awaited.Reply → newest_answer b ≡ None → Reports b (stood n leaves opens made)
  pass_waits e none = on_by Awaited.Reply e (p.reply.waits n.scripted noted (awaited_is Awaited.Reply e) none)

  pub pass_goes : n.awaited ≡ Awaited.Change → (opens ≡ true → (n.up ≡ true) × (is_some (account_of b).hand ≡ true)) → Reports b (stood n leaves opens made)
  pass_goes e h = on_by Awaited.Change e (p.change.goes n.scripted noted (awaited_is Awaited.Change e) (λ o. let k = h (opens_is ∙ o) in (sym r.marked.up ∙ k.0, k.1)))

  -- or it is answered with this frame
  module _ (reply : Booked) (w : Awaited) (e : n.awaited ≡ w) (some : awaits_nothing w ≡ false)
      (h : (front : List Noted) (frame : ℕ) → IsNoted a (waits_of w) n.scripted (with_begun frame front) → IsNoted b Waits.nothing n.scripted (with_reply front frame (Some (Some (reply.kind, reply.value), made)))) where
    newest : LastScript n.begun n.answers
    newest = r.last (ap awaits_nothing e ∙ some)

    abbrev front : List Noted
    front = noted_in newest.front n.answers

    abbrev one : Begun
    one = record { origin = Script newest.number; frame = newest.frame }

    old_noted : noted ≡ with_begun newest.frame front
    old_noted = ap (λ bs. noted_in bs n.answers) newest.last ∙ noted_begun newest.front n.answers one newest.beside

    new_noted : noted_in n.begun (n.answers ++ Replied reply made ∷ []) ≡ with_reply front newest.frame (Some (Some (reply.kind, reply.value), made))
    new_noted = ap (λ bs. noted_in bs (n.answers ++ Replied reply made ∷ [])) newest.last ∙ noted_answer newest.front n.answers one (Replied reply made) newest.beside

    pub pass_answered : Reports b (stood (answered n reply made) leaves opens made)
    pass_answered = record {
      told = subst (λ ns. IsNoted b Waits.nothing n.scripted ns) (sym new_noted) (h front newest.frame (subst (λ ns. IsNoted a (waits_of w) n.scripted ns) old_noted (awaited_is w e)));
      aligned = (let k = length-append n.answers (Replied reply made ∷ []) in let z = ap length newest.last ∙ length-append newest.front (one ∷ []) in let s = newest.beside in omega (arith, k, z, s));
      last = λ bad. no_await bad;
      other = λ bad f answer. no_wait bad;
      gave = r.gave ∙ sym p.gave;
      rest = same_script a b n.begun (n.answers ++ Replied reply made ∷ []) n.scripted n.left p.same.script
          (record { numbers = r.rest.numbers; sent = sent_more n.answers (Replied reply made) r.rest.sent tt; left = r.rest.left });
      marked = answered_marked reply;
    }

  pub pass_replied : (reply : Booked) (g : ℕ) → n.awaited ≡ Awaited.Reply → newest_answer b ≡ Some (Some (reply.kind, reply.value), g) → Reports b (stood (answered n reply made) leaves opens made)
  pass_replied reply g e is = pass_answered reply Awaited.Reply e refl (λ front frame h. p.reply.told n.scripted front frame (Some (reply.kind, reply.value)) g is h)

  -- a change of state that ended so, of a slave that was open and is
  pub pass_changed : (reply : Booked) (outcome : Outcome Reply) → reply_by outcome ≡ Some (reply.kind, reply.value) → n.awaited ≡ Awaited.Change → n.up ≡ true → opens ≡ true → (account_of b).hand ≡ None → EndedSo (account_of b).over outcome →
      Reports b (stood (answered n reply made) leaves opens made)
  pass_changed reply outcome same e up o none ended =
      pass_answered reply Awaited.Change e refl
      (λ front frame h. subst (λ (z : Reply). IsNoted b Waits.nothing n.scripted (with_reply front frame (Some (z, made)))) same
      (p.change.ends n.scripted front frame outcome (sym r.marked.up ∙ up) (sym opens_is ∙ o) none ended h))

  pub pass_some : {P : Type 0} → n.awaited ≡ Awaited.Change → n.up ≡ true → opens ≡ true → (account_of b).hand ≡ None → (account_of b).over ≡ [] → P
  pass_some e up o none nil = absurd (p.change.some n.scripted noted (awaited_is Awaited.Change e) (sym r.marked.up ∙ up) (sym opens_is ∙ o) none nil)

  -- one that returned its slave to Init, which is open again
  pub pass_anew : n.awaited ≡ Awaited.Change → n.up ≡ false → opens ≡ true → Reports b (stood (answered n (record { kind = ReplyKind.Done; value = [] }) made) leaves opens made)
  pass_anew e up o =
      pass_answered (record { kind = ReplyKind.Done; value = [] }) Awaited.Change e refl (λ front frame h. p.change.anew n.scripted front frame (sym r.marked.up ∙ up) (sym opens_is ∙ o) h)

-- BEHIND A LOSS
module _ (made : ℕ) (a b : Leads) (n : Notes) (p : LosesSo made a b) (r : Reports a n) where
  pub lost_still : gave_of b ≡ gave_of a → Reports b n
  lost_still same = record {
    told = p.waits (waits_of n.awaited) n.scripted (noted_in n.begun n.answers) r.told same;
    aligned = r.aligned;
    last = r.last;
    other = r.other;
    gave = r.gave ∙ sym same;
    rest = same_script a b n.begun n.answers n.scripted n.left p.same.script r.rest;
    marked = marked_lost a b n r.marked p.epochs same;
  }

  not_longer : (g : List ℕ) (frame : ℕ) → g ++ frame ∷ [] ≡ g → ⊥
  not_longer g frame e = absurd (let k = ap length e in let m = length-append g (frame ∷ []) in omega (arith, k, m))

  pub lost_given : (leaves : Bool) → leaves ≡ is_leaving b.lived.life.stand → gave_of b ≡ gave_of a ++ made ∷ [] → Reports b (given_up n leaves made)
  lost_given leaves leaves_is more = record {
    told = subst (λ ns. IsNoted b Waits.nothing n.scripted ns) (sym (doubted_same a n r)) (p.given (waits_of n.awaited) n.scripted (noted_in n.begun n.answers) r.told more);
    aligned = (let all = all_answered a n r in omega (arith, all));
    last = λ bad. no_await bad;
    other = λ bad f answer. no_wait bad;
    gave = ap (λ (g : List ℕ). g ++ made ∷ []) r.gave ∙ sym more;
    rest = same_script a b n.begun (answers_doubted n) n.scripted n.left p.same.script (doubted_numbered a n r);
    marked = marked_given a b n r.marked leaves p.epochs (λ same. not_longer (gave_of a) made (sym more ∙ same)) leaves_is;
  }

-- AT THE END
no_replies : (bs : List Begun) (answers : List Answer) (k : ℕ) → noted_in bs (answers ++ replicate k NotSent) ≡ noted_in bs answers
no_replies bs answers zero = ap (noted_in bs) (append-nil answers)
no_replies bs answers (suc k) = ap (noted_in bs) (sym (append_assoc answers (NotSent ∷ []) (replicate k NotSent))) ∙ no_replies bs (answers ++ NotSent ∷ []) k ∙ no_reply bs answers NotSent refl

pub end_noted : (a : Leads) (n : Notes) → Reports a n → AllNoted (life_scripted a.lived.life) (noted_in n.begun (ended n))
end_noted a n r = subst (λ ns. AllNoted (life_scripted a.lived.life) ns) (sym (no_replies n.begun (answers_doubted n) n.left ∙ doubted_same a n r)) r.told.noted

pub end_spent : (a : Leads) (recover : ℕ) (node : Node SlaveServer) (n : Notes) → Reports a n → IsSpent a (slave_row recover node n)
end_spent a recover node n r =
    let d = doubted_numbered a n r in
    let many = r.told.many in
    record {
      numbers = d.numbers ∙ ap first_numbers many;
      answers = answers_doubted n;
      beside = sym (all_answered a n r);
      sent = d.sent;
      whole = ap (λ (k : ℕ). answers_doubted n ++ replicate k NotSent) (r.rest.left ∙ ap (λ (k : ℕ). length a.script - k) many);
    }

pub end_epochs : (a : Leads) (recover : ℕ) (node : Node SlaveServer) (n : Notes) → Reports a n → HasEpochs a (slave_row recover node n)
end_epochs a recover node n r = r.marked.spans
