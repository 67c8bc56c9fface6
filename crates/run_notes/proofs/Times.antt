-- When what is noted happened, over events, what comes into hand, returns and losses.
use Rattle.std.proofs.Common.{◌≡◌, ◌<◌, ◌≤◌, ℕ, suc, ◌-◌, Bool, true, false, List, [], ◌∷◌, ◌++◌, length, length-append, refl, sym, ap, ◌∙◌, subst, arith}
use Rattle.std.specs.Prelude.{◌&&◌, not, nat_le, if◌then◌else◌, Option, Some, None, slice_get}
use Rattle.std.proofs.lemmas.Bool.{le-leb, lt-leb}
use Rattle.std.proofs.lemmas.List.{length-map, map-append}
use Rattle.run_book.specs.of_master_node.declared.changed.Changed.{Changed}
use Rattle.run_book.specs.of_master_node.declared.event.Origin.{Origin}
use Rattle.run_book.specs.of_master_node.declared.event.Origin.TheVariants.{Script, Forward, Gateway}
use Rattle.run_book.specs.of_master_node.declared.told.Told.{Told}
use Rattle.run_frames.specs.of_mailbox_mail.declared.outcome.ReplyKind.{ReplyKind}
use Rattle.run_book.specs.declared.book.Answer.{Answer}
use Rattle.run_book.specs.declared.book.Answer.TheVariants.{Replied, InDoubt}
use Rattle.run_book.specs.declared.book.Begun.{Begun}
use Rattle.run_book.specs.declared.book.Emergency.{Emergency}
use Rattle.run_book.specs.declared.book.Epoch.{Epoch}
use Rattle.run_book.specs.declared.book.Reply.{Reply}
use Rattle.run_notes.specs.Counted.{AreCounted, IsDated, begun_frames, gave_within, heard_frames, newest_over, up_to}
use Rattle.run_notes.specs.Notes.{alarmed, answered, answered_where, answers_doubted, awaits_nothing, began, began_script, began_where, change_noted, changed_noted, count, epochs_cleared, epochs_opened, epochs_stood, first_row, given_up, last_opened, new_notes, received, stood, told_noted}
use Rattle.run_notes.specs.Packets.{noted_began}
use Rattle.run_notes.specs.Rising.{RisesTo}
use Rattle.run_notes.specs.Slaves.{slave_row}
use Rattle.run_notes.specs.Times.{AllBelow, Goes, IsTimed, Time, behind, between, making, notes_past}
use Rattle.run_notes.specs.declared.notes.Awaited.{Awaited}
use Rattle.run_notes.specs.declared.notes.Notes.{Notes}
use Rattle.run_notes.proofs.Counted.{below_push, below_up, count_more, counted_opened, counted_push, counted_same, counted_up, gave_none, newest_answered, newest_gave, newest_given, newest_later, newest_more, newest_next, newest_push, rises_answer, rises_frames, rises_more, rises_push, rises_up, up_to_all, up_to_push}
use Rattle.run_book.specs.of_slave_node.Node.{Node}
use Rattle.run_book.specs.of_slave_server.declared.server.SlaveServer.{SlaveServer}

never_awaits : {P : Type 0} → true ≡ false → P
never_awaits bad = absurd (let no : true ≡ false = bad in cc)

-- nothing happened yet
pub time_first : (left : ℕ) → IsTimed (between 0) [] (new_notes left)
time_first left = record {
  aligned = refl;
  awaited = λ bad. never_awaits bad;
  rises = omega arith;
  gave = tt;
  heard = tt;
  numbers = tt;
  many = refl;
  hand = refl;
  counted = (record { row = refl; emergencies = refl; packets = refl }, tt);
}

-- nothing changed that goes with the time
pub time_same : (t : Time) (n : Notes) → Goes t t n n
time_same t n = λ packets h. h

-- a frame is made
pub time_made : (frame : ℕ) (n : Notes) → Goes (between frame) (making frame) n n
time_made frame n = λ packets h. record {
  aligned = h.aligned;
  awaited = h.awaited;
  rises = rises_up 0 frame (suc frame) frame frame n.begun (answers_doubted n) (omega arith) (omega arith) h.rises;
  gave = h.gave;
  heard = h.heard;
  numbers = h.numbers;
  many = h.many;
  hand = h.hand;
  counted = h.counted;
}

-- it comes back or is lost
pub time_back : (frame : ℕ) (n : Notes) → Goes (making frame) (behind frame) n n
time_back frame n = λ packets h. record {
  aligned = h.aligned;
  awaited = h.awaited;
  rises = rises_up 0 (suc frame) (suc frame) frame (suc frame) n.begun (answers_doubted n) (omega arith) (omega arith) h.rises;
  gave = below_up frame (suc frame) n.gave (omega arith) h.gave;
  heard = below_up frame (suc frame) (heard_frames n.emergencies) (omega arith) h.heard;
  numbers = below_up (suc frame) (suc (suc frame)) packets (omega arith) h.numbers;
  many = h.many;
  hand = h.hand;
  counted = h.counted;
}

-- ---- what comes into hand

module _ (frame : ℕ) (n : Notes) where
  pub time_began : (o : Origin) → Goes (making frame) (making frame) n (began n o frame)
  time_began o = λ packets h.
      let one : Begun = record { origin = o; frame = frame } in
      let answers = answers_doubted n in
      let rows = length-append n.begun (one ∷ []) in
      let more = length-append answers (InDoubt ∷ []) in
      let all = h.aligned in
      record {
        aligned = omega (arith, rows, more, all);
        awaited = λ e. refl;
        rises = rises_push 0 (suc frame) frame frame n.begun answers one all (omega arith) (omega arith) (omega arith) h.rises;
        gave = h.gave;
        heard = h.heard;
        numbers = h.numbers;
        many = h.many;
        hand = newest_push frame n.gave false n.begun answers one InDoubt all
            ∙ (λ i. if le-leb frame frame (omega arith) i then not false && not (gave_none frame frame n.gave h.gave i) else newest_over frame n.gave false n.begun answers);
        counted = counted_same frame (notes_past packets n) (notes_past packets (began n o frame)) n.epochs
            (record {
              newest = λ c l. newest_push c n.gave false n.begun answers one InDoubt all ∙ ap (λ (z : Bool). if z then not false && not (gave_within frame c n.gave) else newest_over c n.gave false n.begun answers) (later c l);
              rows = λ c l. ap (up_to c) (map-append (λ (b : Begun). b.frame) n.begun (one ∷ [])) ∙ up_to_push c (begun_frames n.begun) frame l;
              heard = λ c l. refl;
              packets = λ c l. refl;
            }) h.counted;
      }
    where
      later : (c : ℕ) → c < frame → nat_le frame c ≡ false
      later c l = lt-leb frame c l

  pub time_other : (o : Origin) → Goes (making frame) (making frame) n (began_where n o frame)
  time_other o = by (awaits_nothing n.awaited)
    where
      by : (b : Bool) → Goes (making frame) (making frame) n (if b then began n o frame else n)
      by true = time_began o
      by false = time_same (making frame) n

  pub time_beside : (o : Origin) → Goes (making frame) (making frame) n (noted_began n o frame)
  time_beside (Script number) = time_same (making frame) n
  time_beside (Forward number) = time_other (Forward number)
  time_beside (Gateway number) = time_other (Gateway number)

  pub time_script : (number : ℕ) (state : Bool) → Goes (making frame) (making frame) n (began_script n number state frame)
  time_script number state = λ packets h.
      let b = time_began (Script n.scripted) packets h in
      record { aligned = b.aligned; awaited = λ e. refl; rises = b.rises; gave = b.gave; heard = b.heard; numbers = b.numbers; many = b.many; hand = b.hand; counted = b.counted }

-- ---- behind a frame

module _ (frame : ℕ) (n : Notes) where
  pub time_answered : (reply : Reply) → n.in_hand ≡ true → Goes (behind frame) (behind frame) n (answered n reply frame)
  time_answered reply hand = λ packets h.
      let old : answers_doubted n ≡ n.answers ++ InDoubt ∷ [] = ap (λ (z : Bool). if z then n.answers ++ InDoubt ∷ [] else n.answers) hand in
      let many = h.aligned ∙ ap length old in
      let doubt = length-append n.answers (InDoubt ∷ []) in
      let more = length-append n.answers (Replied reply frame ∷ []) in
      record {
        aligned = omega (arith, many, doubt, more);
        awaited = λ bad. never_awaits bad;
        rises = rises_answer 0 frame n.begun n.answers reply (subst (λ (z : List Answer). RisesTo 0 (suc frame) (suc frame) n.begun z) old h.rises);
        gave = h.gave;
        heard = h.heard;
        numbers = h.numbers;
        many = h.many;
        hand = newest_answered frame n.gave reply false n.begun n.answers (omega (arith, many, doubt)) (rises_frames 0 (suc frame) (suc frame) n.begun (answers_doubted n) h.rises);
        counted = counted_same frame (notes_past packets n) (notes_past packets (answered n reply frame)) n.epochs
            (record {
              newest = λ c l. newest_later c n.gave frame reply l false n.begun n.answers ∙ ap (λ (z : List Answer). newest_over c n.gave false n.begun z) (sym old);
              rows = λ c l. refl;
              heard = λ c l. refl;
              packets = λ c l. refl;
            }) h.counted;
      }

  pub time_reply : (reply : Reply) → Goes (behind frame) (behind frame) n (answered_where n reply frame)
  time_reply reply = by n.in_hand (awaits_nothing n.awaited) refl
    where
      by : (h w : Bool) → n.in_hand ≡ h → Goes (behind frame) (behind frame) n (if h && w then answered n reply frame else n)
      by true true e = time_answered reply e
      by true false e = time_same (behind frame) n
      by false w e = time_same (behind frame) n

  time_awaited : (reply : Reply) → awaits_nothing n.awaited ≡ false → Goes (behind frame) (behind frame) n (answered n reply frame)
  time_awaited reply w = λ packets h. time_answered reply (h.awaited w) packets h

  pub time_told : (told : Told) (value : List ℕ) → n.awaited ≡ Awaited.Reply → Goes (behind frame) (behind frame) n (told_noted told value frame n)
  time_told Told.Waits value w = time_same (behind frame) n
  time_told (Told.Answered kind) value w = time_awaited (record { kind = kind; value = value }) (ap awaits_nothing w)
  time_told Told.Unknown value w = time_same (behind frame) n

  pub time_change : (opens : Bool) (changed : Changed) → n.awaited ≡ Awaited.Change → Goes (behind frame) (behind frame) n (change_noted opens changed frame n)
  time_change opens changed w = by opens n.up
    where
      one : (kind : ReplyKind) → Goes (behind frame) (behind frame) n (answered n (record { kind = kind; value = [] }) frame)
      one kind = time_awaited (record { kind = kind; value = [] }) (ap awaits_nothing w)

      ended : (changed : Changed) → Goes (behind frame) (behind frame) n (changed_noted changed frame n)
      ended Changed.Nothing = time_same (behind frame) n
      ended Changed.Going = time_same (behind frame) n
      ended Changed.Reached = one ReplyKind.Done
      ended (Changed.Refused code) = one (ReplyKind.StateRefused code)

      by : (opens up : Bool) → Goes (behind frame) (behind frame) n (if opens then (if up then changed_noted changed frame n else answered n (record { kind = ReplyKind.Done; value = [] }) frame) else n)
      by true true = ended changed
      by true false = one ReplyKind.Done
      by false up = time_same (behind frame) n

  pub time_given : (leaves : Bool) → Goes (behind frame) (behind frame) n (given_up n leaves frame)
  time_given leaves = λ packets h. record {
    aligned = h.aligned;
    awaited = λ bad. never_awaits bad;
    rises = h.rises;
    gave = below_push (suc frame) n.gave frame (omega arith) h.gave;
    heard = h.heard;
    numbers = h.numbers;
    many = h.many;
    hand = newest_given frame n.gave n.begun (answers_doubted n) (rises_frames 0 (suc frame) (suc frame) n.begun (answers_doubted n) h.rises);
    counted = counted_same frame (notes_past packets n) (notes_past packets (given_up n leaves frame)) n.epochs
        (record { newest = λ c l. newest_gave c n.gave frame l false n.begun (answers_doubted n); rows = λ c l. refl; heard = λ c l. refl; packets = λ c l. refl }) h.counted;
  }

  pub time_alarmed : (octets : List ℕ) → Goes (behind frame) (behind frame) n (alarmed n octets frame)
  time_alarmed octets = λ packets h.
      let one : Emergency = record { octets = octets; frame = frame } in
      let frames : heard_frames (n.emergencies ++ one ∷ []) ≡ heard_frames n.emergencies ++ frame ∷ [] = map-append (λ (e : Emergency). e.frame) n.emergencies (one ∷ []) in
      record {
        aligned = h.aligned;
        awaited = h.awaited;
        rises = h.rises;
        gave = h.gave;
        heard = subst (AllBelow (suc frame)) (sym frames) (below_push (suc frame) (heard_frames n.emergencies) frame (omega arith) h.heard);
        numbers = h.numbers;
        many = h.many;
        hand = h.hand;
        counted = counted_same frame (notes_past packets n) (notes_past packets (alarmed n octets frame)) n.epochs
            (record {
              newest = λ c l. refl;
              rows = λ c l. refl;
              heard = λ c l. ap (up_to c) frames ∙ up_to_push c (heard_frames n.emergencies) frame l;
              packets = λ c l. refl;
            }) h.counted;
      }

  -- ---- as its master stands to it behind the frame

  -- these are its epochs now
  seen_so : (packets : List ℕ) (epochs : List Epoch) (leaves opens : Bool) → IsTimed (behind frame) packets n → AreCounted (suc frame) (notes_past packets n) epochs → IsTimed (between (suc frame)) packets (record n { epochs = epochs; leaving = leaves; up = opens })
  seen_so packets epochs leaves opens h counted = record {
    aligned = h.aligned;
    awaited = h.awaited;
    rises = h.rises;
    gave = h.gave;
    heard = h.heard;
    numbers = h.numbers;
    many = h.many;
    hand = newest_next frame n.gave 0 false n.begun (answers_doubted n) h.gave h.rises ∙ h.hand;
    counted = counted;
  }

  same_epochs : (packets : List ℕ) → IsTimed (behind frame) packets n → AreCounted (suc frame) (notes_past packets n) n.epochs
  same_epochs packets h = counted_up frame (notes_past packets n) (suc frame) n.epochs (omega arith) h.counted

  cleared_epochs : (packets : List ℕ) → IsTimed (behind frame) packets n → AreCounted (suc frame) (notes_past packets n) (epochs_cleared n frame)
  cleared_epochs packets h =
      let rows : length n.begun ≡ up_to frame (begun_frames n.begun) =
      sym (length-map n.begun (λ (b : Begun). b.frame)) ∙ sym (up_to_all frame (begun_frames n.begun) (rises_frames 0 (suc frame) (suc frame) n.begun (answers_doubted n) h.rises)) in
      let heard : length n.emergencies ≡ up_to frame (heard_frames n.emergencies) = sym (length-map n.emergencies (λ (e : Emergency). e.frame)) ∙ sym (up_to_all frame (heard_frames n.emergencies) h.heard) in
      counted_push (suc frame) (notes_past packets n) n.epochs _ (
        omega arith,
        record {
          row = λ i. count (first_row (sym h.hand i) (rows i));
          emergencies = ap count heard;
          packets = h.many ∙ ap count (sym (up_to_all (suc frame) packets h.numbers));
        },
      )
      (same_epochs packets h)

  opened_epochs : (packets : List ℕ) → IsTimed (behind frame) packets n → AreCounted (suc frame) (notes_past packets n) (epochs_opened n frame)
  opened_epochs packets h = by (slice_get n.epochs (length n.epochs - 1)) refl
    where
      by : (o : Option Epoch) → slice_get n.epochs (length n.epochs - 1) ≡ o → AreCounted (suc frame) (notes_past packets n) (last_opened n.epochs frame o)
      by None e = same_epochs packets h
      by (Some d) e = counted_opened (suc frame) (notes_past packets n) n.epochs (length n.epochs - 1) d (Some frame) e (same_epochs packets h)

  pub time_stood : (leaves opens : Bool) → Goes (behind frame) (between (suc frame)) n (stood n leaves opens frame)
  time_stood leaves opens = λ packets h. seen_so packets (epochs_stood n leaves opens frame) leaves opens h (by packets h (n.leaving && not leaves) (not n.up && opens))
    where
      by : (packets : List ℕ) → IsTimed (behind frame) packets n → (a b : Bool) → AreCounted (suc frame) (notes_past packets n) (if a then epochs_cleared n frame else if b then epochs_opened n frame else n.epochs)
      by packets h true b = cleared_epochs packets h
      by packets h false true = opened_epochs packets h
      by packets h false false = same_epochs packets h

  -- of one that isn't seen
  pub time_over : Goes (behind frame) (between (suc frame)) n n
  time_over = λ packets h. seen_so packets n.epochs n.leaving n.up h (same_epochs packets h)

-- one step behind another
pub time_then : (r s t : Time) (a b c : Notes) → Goes r s a b → Goes s t b c → Goes r t a c
time_then r s t a b c f g = λ packets h. g packets (f packets h)

-- ---- a packet comes in

pub time_received : (t : Time) (packets : List ℕ) (sent : ℕ) (n : Notes) → sent ≤ t.back → t.epochs < sent → IsTimed t packets n → IsTimed t (packets ++ sent ∷ []) (received n)
time_received t packets sent n l m h = record {
  aligned = h.aligned;
  awaited = h.awaited;
  rises = h.rises;
  gave = h.gave;
  heard = h.heard;
  numbers = below_push (suc t.back) packets sent (omega (arith, l)) h.numbers;
  many = (let e : length (packets ++ sent ∷ []) ≡ suc (length packets) = (let k = length-append packets (sent ∷ []) in omega (arith, k)) in ap (λ (z : ℕ). count (suc z)) h.many ∙ count_more (length packets) ∙ ap count (sym e));
  hand = h.hand;
  counted = counted_same t.epochs (notes_past packets n) (notes_past (packets ++ sent ∷ []) (received n)) n.epochs
      (record { newest = λ c l. refl; rows = λ c l. refl; heard = λ c l. refl; packets = λ c l. up_to_push (suc c) packets sent (omega (arith, l, m)) }) h.counted;
}

-- ---- at the end

pub time_row : (recover frames : ℕ) (packets : List ℕ) (node : Node SlaveServer) (n : Notes) → IsTimed (between frames) packets n → IsDated frames packets (slave_row recover node n)
time_row recover frames packets node n h = record {
  rises = rises_more 0 frames frames n.begun (answers_doubted n) _ h.rises;
  counted = counted_same frames (notes_past packets n) _ n.epochs (record { newest = λ c l. newest_more c n.gave false n.begun (answers_doubted n) _ h.aligned; rows = λ c l. refl; heard = λ c l. refl; packets = λ c l. refl }) h.counted;
}

-- its answer, and then how its master stands to it
pub seen_behind : (frame : ℕ) (n m : Notes) (leaves opens : Bool) → Goes (behind frame) (behind frame) n m → Goes (behind frame) (between (suc frame)) n (stood m leaves opens frame)
seen_behind frame n m leaves opens g = time_then (behind frame) (behind frame) (between (suc frame)) n m (stood m leaves opens frame) g (time_stood frame m leaves opens)
