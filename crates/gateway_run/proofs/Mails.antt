-- The rows of mails that the book of a serving has are those of its slaves' lives.
use Rattle.std.proofs.Common.{◌≡◌, ◌<◌, ◌≤◌, ◌+◌, ◌-◌, ◌%◌, ℕ, zero, suc, Bool, true, false, Option, Some, List, [], ◌∷◌, ◌++◌, length, length-append, map, refl, sym, ap, ◌∙◌, subst, arith, append_assoc, append-nil}
use Rattle.std.specs.Prelude.{if◌then◌else◌, slice_get, ⊤}
use Rattle.std.proofs.lemmas.List.{length-map}
use Rattle.run_record.proofs.of_master_node.Handeds.{comes_own}
use Rattle.run_record.specs.of_master_node.Begins.{begun_of}
use Rattle.run_record.specs.of_master_node.Events.{oldest_in, oldest_of}
use Rattle.run_record.specs.of_master_node.Serving.{run_lead, run_turn}
use Rattle.run_record.specs.of_datagrams.Datagram as Raw
use Rattle.run_record.specs.of_frame_view.View.{Lens}
use Rattle.run_record.specs.of_frame_view.Shares.{AllBoth}
use Rattle.run_record.specs.of_exchange_model.Rows.{Row, begun}
use Rattle.run_record.specs.of_life_runs.First.{leads_from, lens_of}
use Rattle.run_record.specs.of_life_runs.Led.{Exchanged, gives_up_at}
use Rattle.run_record.specs.of_link_mails.Body.{Body}
use Rattle.run_record.specs.of_segment_plan.declared.service.Service as Plan
use Rattle.run_record.specs.of_master_duty.Reply.{Reply}
use Rattle.run_record.specs.of_state_model.Stated.{Service}
use Rattle.run_record.specs.of_master_hand.Spoken.{Asked}
use Rattle.run_record.specs.of_run_book.declared.book.GramIn.{GramIn}
use Rattle.run_record.specs.of_run_book.declared.book.SlaveBook.{SlaveBook}
use Rattle.run_record.specs.Mails.{mail_begun, served_mails}
use Rattle.run_record.specs.Served.{ServeTo}
use Rattle.run_record.specs.of_run_notes.Packets.{AreMails, begun_in, mail_row, mails_at, rows_with}
use Rattle.run_record.specs.of_run_notes.Reports.{IsBooked}
use Rattle.run_record.specs.of_segment_plan.declared.plan.Scenario.{Scenario}
use Rattle.run_record.specs.of_segment_plan.declared.slave.SlaveSpec.{SlaveSpec}
use Rattle.run_record.proofs.of_served_places.Behind.{behind_stays}
use Rattle.run_record.proofs.of_served_places.Next.{next_stays}
use Rattle.run_record.specs.of_served_places.Rows.{Stays, passed_rows, row_begun}
use Rattle.run_record.specs.of_life_runs.Served.{AllServedTurn, IsServedLed, IsServedTurn, Keyed, Serves, ServedComes, ServedTurn, all_serve, asked_at, gives_it, served_behind}
use Rattle.run_record.specs.of_life_runs.Told.{Passed}
use Rattle.gateway_run.specs.Mails.{AreLate, HasMails, IsLateRow, IsRowOf}
use Rattle.gateway_run.specs.Replies.{AllDesk, IsLate}
use Rattle.gateway_run.specs.declared.desk.Request.{Request}
use Rattle.gateway_run.specs.Account.{Owing}
use Rattle.gateway_run.proofs.Accounts.{get_on}

abbrev Listed : Type 0
Listed = List (Row Body Asked Reply)

-- ROWS STAY those of a life, where that goes on, and where more mails are asked
module _ (asked : List Keyed) where
  rows_stay : (rows : List (ℕ × ℕ)) (rs ss : Listed) → AllBoth (IsRowOf asked) rows rs → AllBoth Stays rs ss → AllBoth (IsRowOf asked) rows ss
  rows_stay [] [] [] a b = tt
  rows_stay [] [] (s ∷ ss) a b = absurd b
  rows_stay [] (r ∷ rs) ss a b = absurd a
  rows_stay (x ∷ rows) [] ss a b = absurd a
  rows_stay (x ∷ rows) (r ∷ rs) [] a b = absurd b
  rows_stay (x ∷ rows) (r ∷ rs) (s ∷ ss) a b =
      let h = a.0 in
      (record { frame = b.0.frame ∙ h.frame; place = h.place; number = h.number; keyed = h.keyed; there = h.there; service = b.0.service ∙ h.service }, rows_stay rows rs ss a.1 b.1)

  rows_append : (rows more : List (ℕ × ℕ)) (rs qs : Listed) → AllBoth (IsRowOf asked) rows rs → AllBoth (IsRowOf asked) more qs → AllBoth (IsRowOf asked) (rows ++ more) (rs ++ qs)
  rows_append [] more [] qs a b = b
  rows_append [] more (r ∷ rs) qs a b = absurd a
  rows_append (x ∷ rows) more [] qs a b = absurd a
  rows_append (x ∷ rows) more (r ∷ rs) qs a b = (a.0, rows_append rows more rs qs a.1 b)

  more_asked : (k : Keyed) (rows : List (ℕ × ℕ)) (rs : Listed) → AllBoth (IsRowOf asked) rows rs → AllBoth (IsRowOf (asked ++ k ∷ [])) rows rs
  more_asked k [] [] a = tt
  more_asked k [] (r ∷ rs) a = absurd a
  more_asked k (x ∷ rows) [] a = absurd a
  more_asked k (x ∷ rows) (r ∷ rs) a =
      let h = a.0 in
      (record { frame = h.frame; place = h.place; number = h.number; keyed = h.keyed; there = get_on asked (k ∷ []) h.place h.keyed h.there; service = h.service }, more_asked k rows rs a.1)

-- THE ROWS OF A SLAVE: those of its life; and the mails that wait are the last of those that were asked
record Passes (w : Serves) (rows : List (ℕ × ℕ)) : Type 0 where
  over : List Keyed
  split : w.asked ≡ over ++ w.waits
  mails : AllBoth (IsRowOf w.asked) rows (passed_rows w.lead.lived.life)

-- of all slaves
abbrev AllPass : List Serves → (ℕ → List (ℕ × ℕ)) → Type 0
AllPass [] rows = ⊤
AllPass (w ∷ ws) rows = Passes w (rows 0) × AllPass ws (λ k. rows (suc k))

-- BEFORE THE FIRST FRAME there is none
first_pass : (paces : List ℕ) (services : List (ℕ × Plan.Service)) (place : ℕ) (ss : List SlaveSpec) → AllPass (all_serve paces (leads_from services place ss)) (λ k. [])
first_pass [] services place [] = tt
first_pass (pace ∷ paces) services place [] = tt
first_pass [] services place (s ∷ ss) = (record { over = []; split = refl; mails = tt }, first_pass [] services (suc place) ss)
first_pass (pace ∷ paces) services place (s ∷ ss) = (record { over = []; split = refl; mails = tt }, first_pass paces services (suc place) ss)

-- A MAIL IS ASKED
asked_pass : (place : ℕ) (k : Keyed) (ws : List Serves) (rows : ℕ → List (ℕ × ℕ)) → AllPass ws rows → AllPass (asked_at place k ws) rows
asked_pass place k [] rows h = tt
asked_pass zero k (w ∷ ws) rows h = (
  record {
    over = h.0.over;
    split = ap (λ z. z ++ k ∷ []) h.0.split ∙ append_assoc h.0.over w.waits (k ∷ []);
    mails = more_asked w.asked k (rows 0) (passed_rows w.lead.lived.life) h.0.mails;
  },
  h.1,
)
asked_pass (suc place) k (w ∷ ws) rows h = (h.0, asked_pass place k ws (λ j. rows (suc j)) h.1)

first_behind : {T : Type 0} (xs ys : List T) (x : T) → slice_get (xs ++ x ∷ ys) (length xs) ≡ Some x
first_behind [] ys x = refl
first_behind (a ∷ xs) ys x = first_behind xs ys x

-- OVER A FRAME: what comes into hand
module _ (lens : ℕ → Lens) (recover retry : ℕ) (gives : Bool) (made : ℕ) (f : Exchanged) (ds : List Raw.Datagram) where
  module _ (w : Serves) (v : ServedTurn) (t : IsServedTurn lens made ds w v) (rows : List (ℕ × ℕ)) (h : Passes w rows) where
    -- the row that it gets in the book, beside that of the life, and what waits behind it
    record Comes (b : Option (Service Asked)) : Type 0 where
      row : AllBoth (IsRowOf w.asked) (mail_begun (oldest_of w) made b) (row_begun made b)
      gone : List Keyed
      left : w.asked ≡ gone ++ v.waits

    by_comes : (room n m : ℕ) (script : List Plan.Service) (waits rest : List Keyed) (hand after : Option Passed) (b : Option (Service Asked)) → ServedComes room script waits hand n b m rest after → w.waits ≡ waits → v.waits ≡ rest → Comes b
    by_comes _ _ _ _ _ _ _ _ _ ServedComes.none a c = record { row = tt; gone = h.over; left = h.split ∙ ap (λ z. h.over ++ z) (a ∙ sym c) }
    by_comes room n _ script _ _ _ _ _ (ServedComes.own (Service.State target) m own) a c = record { row = tt; gone = h.over; left = h.split ∙ ap (λ z. h.over ++ z) (a ∙ sym c) }
    by_comes room n _ script _ _ _ _ _ (ServedComes.own (Service.Mails q) m own) a c = record {
      row = subst (λ (z : Bool). AllBoth (IsRowOf w.asked) (if z then (oldest_of w, made) ∷ [] else []) (if z then begun q made ∷ [] else [])) (sym (comes_own room script n m (Some (Service.Mails q)) own q refl)) tt;
      gone = h.over;
      left = h.split ∙ ap (λ z. h.over ++ z) (a ∙ sym c);
    }
    by_comes _ _ _ _ _ _ _ _ _ (ServedComes.mail k rest first) a c =
        let all : w.asked ≡ h.over ++ k ∷ rest = h.split ∙ ap (λ z. h.over ++ z) (a ∙ first) in
        let many : length w.asked ≡ length h.over + length w.waits = ap length h.split ∙ length-append h.over w.waits in
        let number : length h.over ≡ length w.asked - length w.waits = omega (arith, many) in
        record {
          row = (
            record {
              frame = refl;
              place = length h.over;
              number = ap (λ (n : ℕ). n % 4294967296) number;
              keyed = k;
              there = subst (λ (ks : List Keyed). slice_get ks (length h.over) ≡ Some k) (sym all) (first_behind h.over rest k);
              service = refl;
            },
            tt,
          );
          gone = h.over ++ k ∷ [];
          left = all ∙ sym (append_assoc h.over (k ∷ []) rest) ∙ ap (λ z. (h.over ++ k ∷ []) ++ z) (sym c);
        }

    came : Comes v.turn.begun
    came = by_comes (lens w.lead.lived.spot.station).out w.lead.number v.turn.number w.lead.script w.waits v.waits w.hand v.hand v.turn.begun t.comes refl refl

    -- where it is given up the mails that wait are dropped
    left_behind : (z : Bool) → (over : List Keyed) × (v.asked ≡ over ++ (if z then [] else v.waits))
    left_behind true = (v.asked, sym (append-nil v.asked))
    left_behind false = (came.gone, t.same ∙ came.left)

    one_passes : Passes (served_behind lens recover retry gives made f v) (rows ++ mail_begun (oldest_of w) made v.turn.begun)
    one_passes =
        let more = mail_begun (oldest_of w) made v.turn.begun in
        let old = passed_rows w.lead.lived.life in
        let all = rows_append w.asked rows more old (row_begun made v.turn.begun) h.mails came.row in
        let next = rows_stay w.asked (rows ++ more) (old ++ row_begun made v.turn.begun) (passed_rows v.turn.lived.life) all (next_stays lens made ds w v t) in
        let there = subst (λ (ks : List Keyed). AllBoth (IsRowOf ks) (rows ++ more) (passed_rows v.turn.lived.life)) (sym t.same) next in
        let left = left_behind (gives_it lens recover retry gives f.fate v) in
        record {
          over = left.0;
          split = left.1;
          mails = rows_stay v.asked (rows ++ more) (passed_rows v.turn.lived.life) (passed_rows (served_behind lens recover retry gives made f v).lead.lived.life) there (behind_stays lens recover retry gives made f v);
        }

  all_pass : (ws : List Serves) (vs : List ServedTurn) → AllServedTurn lens made ds ws vs → (rows : ℕ → List (ℕ × ℕ)) → AllPass ws rows →
      AllPass (map (served_behind lens recover retry gives made f) vs) (λ k. rows k ++ mail_begun (oldest_in ws k) made (begun_of (map run_turn vs) k))
  all_pass [] [] t rows h = tt
  all_pass [] (v ∷ vs) t rows h = absurd t
  all_pass (w ∷ ws) [] t rows h = absurd t
  all_pass (w ∷ ws) (v ∷ vs) t rows h = (one_passes w v t.0 (rows 0) h.0, all_pass ws vs t.1 (λ k. rows (suc k)) h.1)

-- OVER A SERVING
served_pass : (plan : Scenario) (fs : List Exchanged) (missed : ℕ) (ws : List Serves) (lives : ServeTo plan fs missed ws) → AllPass ws (λ k. served_mails lives k)
served_pass plan _ _ _ IsServedLed.start = first_pass plan.paces plan.services 0 plan.slaves
served_pass plan _ _ _ (IsServedLed.asks fs missed ws place k led may) = asked_pass place k ws (λ j. served_mails led j) (served_pass plan fs missed ws led)
served_pass plan _ _ _ (IsServedLed.on fs missed ws f vs led frame) =
    all_pass (lens_of plan.slaves) plan.recover plan.retry (gives_up_at (lens_of plan.slaves) plan.recover plan.retry missed) (length fs) f frame.datagrams ws vs frame.each (λ j. served_mails led j) (served_pass plan fs missed ws led)

-- ---- in the book

in_rows : (ws : List Serves) (rows : List SlaveBook) (mails : ℕ → List (ℕ × ℕ)) → AllPass ws mails → AllBoth IsBooked (map run_lead ws) rows → ((k : ℕ) → k < length rows → mails_at (begun_in rows) k ≡ mails k) → AllBoth HasMails ws rows
in_rows [] [] mails h booked are = tt
in_rows [] (row ∷ rows) mails h booked are = absurd booked
in_rows (w ∷ ws) [] mails h booked are = absurd booked
in_rows (w ∷ ws) (row ∷ rows) mails h booked are = (
  subst (λ ms. AllBoth (IsRowOf w.asked) ms (passed_rows w.lead.lived.life)) (sym (are 0 (omega arith))) h.0.mails,
  in_rows ws rows (λ k. mails (suc k)) h.1 booked.1 (λ k l. are (suc k) (omega (arith, l))),
)

-- THE ROWS OF MAILS THERE are those of the lives
pub book_mails : (plan : Scenario) (fs : List Exchanged) (missed : ℕ) (ws : List Serves) (lives : ServeTo plan fs missed ws) (rows : List SlaveBook) → AllBoth IsBooked (map run_lead ws) rows → AreMails (λ k. served_mails lives k) (begun_in rows) → AllBoth HasMails ws rows
book_mails plan fs missed ws lives rows booked are =
    in_rows ws rows (λ k. served_mails lives k) (served_pass plan fs missed ws lives) booked (λ k l. are k (let many = length-map rows (λ (row : SlaveBook). row.begun) in omega (arith, l, many)))

late_rows : (gs : List GramIn) (asked : List Keyed) (came : List ℕ) (rs : Listed) (rows : List (ℕ × ℕ)) → AllBoth (IsLate gs) came rs → AllBoth (IsRowOf asked) rows rs → AllBoth (IsLateRow gs) came rows
late_rows gs asked [] [] [] l h = tt
late_rows gs asked [] [] (x ∷ rows) l h = absurd h
late_rows gs asked [] (r ∷ rs) rows l h = absurd l
late_rows gs asked (n ∷ _) [] rows l h = absurd l
late_rows gs asked (n ∷ _) (r ∷ rs) [] l h = absurd h
late_rows gs asked (n ∷ came) (r ∷ rs) (x ∷ rows) l h = (λ g there. subst (λ (frame : ℕ). g.frame ≤ frame) h.0.frame (l.0 g there), late_rows gs asked came rs rows l.1 h.1)

-- NONE BEGAN BEFORE ITS DATAGRAM was heard
pub book_late : (gs : List GramIn) (rs : List Request) (os : List Owing) (slave : ℕ) (ws : List Serves) (came : List (List ℕ)) (rows : List SlaveBook) → AllDesk gs rs os slave ws came → AllBoth HasMails ws rows → AllBoth (AreLate gs) came rows
book_late gs rs os slave [] [] [] d h = tt
book_late gs rs os slave [] [] (row ∷ rows) d h = absurd h
book_late gs rs os slave [] (ns ∷ nss) rows d h = absurd d
book_late gs rs os slave (w ∷ ws) [] rows d h = absurd d
book_late gs rs os slave (w ∷ ws) (ns ∷ nss) [] d h = absurd h
book_late gs rs os slave (w ∷ ws) (ns ∷ nss) (row ∷ rows) d h =
    (late_rows gs w.asked ns (passed_rows w.lead.lived.life) (rows_with mail_row row.begun) d.0.late h.0, book_late gs rs os (suc slave) ws nss rows d.1 h.1)
