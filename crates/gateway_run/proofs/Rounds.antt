-- ONE FRAME OF A SERVING, of the slave at each place: its desk and its datagrams go on by what is listed of it alone.
use Rattle.std.proofs.Common.{◌≡◌, ℕ, suc, ◌≤◌, Bool, true, false, Some, None, List, [], ◌∷◌, ◌++◌, refl, sym, ap, ◌∙◌, subst, eqb-true}
use Rattle.std.specs.Prelude.{◌==◌, cond, if◌then◌else◌, slice_get, slice_index_or, All, Ok}
use Rattle.std.proofs.lemmas.List.Elements.{All-filter, filter-append, filter_passes}
use Rattle.gateway_core.specs.Framing.{request_in}
use Rattle.run_record.proofs.of_served_places.Hears.{behind_heard, behind_over}
use Rattle.run_record.specs.of_served_places.Rows.{AreAll, HearsNoMore, passed_rows, told_besides}
use Rattle.run_record.specs.of_life_runs.Served.{Serves, ServedTurn, IsServedTurn, TellsSo, accepted_by, gives_it, served_behind}
use Rattle.run_record.specs.of_life_runs.Told.{Passed, TellsOwn, replies_in}
use Rattle.gateway_core.specs.of_mailbox_mail.declared.mail.Mail.{Mail}
use Rattle.run_record.specs.of_master_node.Events.{begun_told}
use Rattle.run_record.specs.of_master_node.Serving.{serves_of}
use Rattle.run_record.specs.of_master_node.Wants.{gave_of}
use Rattle.run_record.specs.of_master_node.declared.event.Event.{Event}
use Rattle.run_record.specs.of_master_node.Listing.{told_in}
use Rattle.run_record.specs.of_datagrams.Datagram as Raw
use Rattle.run_record.specs.of_frame_view.View.{Lens}
use Rattle.run_record.specs.of_life_model.Lives.{Stand}
use Rattle.run_record.specs.of_life_runs.Led.{Exchanged}
use Rattle.run_record.specs.of_master_tour.Made.{is_in}
use Rattle.run_record.specs.of_master_tour.Orders.{AreOnce}
use Rattle.run_record.specs.of_segment_model.Ends.{Passing}
use Rattle.run_record.specs.of_segment_ring.declared.wire.Fate.{Fate}
use Rattle.run_record.specs.of_segment_ring.declared.wire.Fate.TheVariants.{Pass, Lost}
use Rattle.run_record.specs.of_run_book.declared.book.GramIn.{GramIn}
use Rattle.gateway_run.specs.Account.{Owing, is_of, left_by_all, owed_by, owed_by_all, waits_at}
use Rattle.gateway_run.specs.Desk.{AreApart}
use Rattle.gateway_run.specs.Rooms.{AreFiled, begun_of, done_by, done_by_all, only, owed_for, requests_of, waiting_of}
use Rattle.gateway_run.specs.Replies.{Fares, GivesAll, IsDesk, IsHeard, IsOurs, IsUndone}
use Rattle.gateway_run.specs.declared.desk.Request.{Request}
use Rattle.gateway_run.proofs.Accounts.{unlike_filter}
use Rattle.gateway_run.proofs.Rooms.{begun_here, owed_append, waits_here}
use Rattle.gateway_run.proofs.Views.{AreOf, done_is_here, done_none, events_keep, events_unlike, owed_is, owed_is_here, owed_none}
use Rattle.gateway_run.proofs.Places.{IsAlone, places_give, places_leave, told_where}
use Rattle.gateway_run.proofs.Befores.{AreBegun}
use Rattle.gateway_run.proofs.Begins.{HasBegun, slave_begins}
use Rattle.gateway_run.proofs.Telling.{HasTold, OwesBesides}
use Rattle.gateway_run.proofs.Frames.{accepted, slave_back, tells}
use Rattle.gateway_run.proofs.Losts.{given, slave_lost, tells_lost}

-- A NUMBER AMONG THESE is known by itself alone
only_in : (n : ℕ) (ns : List ℕ) → is_in n ns ≡ is_in n (only n ns)
only_in n [] = refl
only_in n (m ∷ ns) = go (n == m) refl (only_in n ns)
  where
    go : (b : Bool) → (n == m) ≡ b → is_in n ns ≡ is_in n (only n ns) → is_in n (m ∷ ns) ≡ is_in n (only n (m ∷ ns))
    go true e on = ap (λ z. if z then true else is_in n ns) e ∙ sym (ap (λ z. is_in n (cond z (m ∷ only n ns) (only n ns))) e ∙ ap (λ z. if z then true else is_in n (only n ns)) e)
    go false e on = ap (λ z. if z then true else is_in n ns) e ∙ on ∙ sym (ap (λ z. is_in n (cond z (m ∷ only n ns) (only n ns))) e)

only_append : (n : ℕ) (ns ms : List ℕ) → only n (ns ++ ms) ≡ only n ns ++ only n ms
only_append n ns ms = filter-append (λ k. n == k) ns ms

pub in_both : (n : ℕ) (ns ms : List ℕ) → is_in n (ns ++ ms) ≡ (if is_in n ms then true else is_in n ns)
in_both n [] ms = go (is_in n ms)
  where
    go : (b : Bool) → b ≡ (if b then true else false)
    go true = refl
    go false = refl
in_both n (k ∷ ns) ms = go (n == k) (is_in n ms) (in_both n ns ms)
  where
    go : (b c : Bool) → is_in n (ns ++ ms) ≡ (if c then true else is_in n ns) → (if b then true else is_in n (ns ++ ms)) ≡ (if c then true else (if b then true else is_in n ns))
    go true true e = refl
    go true false e = refl
    go false true e = e
    go false false e = e

-- A FRAME BEFORE WHICH ALL IS IN ORDER: no slave is told of twice; each request has a key and a datagram of its own that was heard by then, and isn't done
pub record IsOrderly (made : ℕ) (gs : List GramIn) (rs : List Request) (dones first second : List ℕ) : Type 0 where
  pub once1 : AreOnce first
  pub once2 : AreOnce second
  pub apart : AreApart rs
  pub filed : AreFiled rs
  pub heard : All (IsHeard gs) rs
  pub undone : All (IsUndone dones) rs
  pub early : All (λ (g : GramIn). g.frame ≤ made) gs

module _ (lens : ℕ → Lens) (recover retry : ℕ) (gives : Bool) (made : ℕ) (sent back : List ℕ) (gs : List GramIn) (rs : List Request) (os : List Owing) (dones : List ℕ) (begins shows : ℕ → List Event) (first second : List ℕ) where
  -- the requests behind what is listed before the frame, and behind all
  abbrev pub rs1 : List Request
  rs1 = left_by_all (told_in begins first) rs

  abbrev pub rs2 : List Request
  rs2 = left_by_all (told_in shows second) rs1

  abbrev pub more : List Owing
  more = owed_by_all (told_in shows second) rs1

  abbrev pub ended : List ℕ
  ended = done_by_all (told_in shows second) rs1

  -- WHAT IS KNOWN OF ALL
  pub record AllKnown : Type 0 where
    pub orderly : IsOrderly made gs rs dones first second
    pub own1 : (k : ℕ) → AreOf k rs (begins k)
    pub own2 : (k : ℕ) → AreOf k rs1 (shows k)

  module _ (i : ℕ) (w : Serves) (v : ServedTurn) (came : List ℕ) where
    -- what a frame of this fate tells of the slave
    abbrev pub tells_by : Fate → List Event
    tells_by Pass = tells lens recover retry gives made sent back v gs i os more came rs1 (λ n. is_in n dones) (λ n. is_in n (dones ++ ended))
    tells_by (Lost after) = tells_lost lens recover retry gives made after sent back v gs i os more came rs1 (λ n. is_in n dones) (λ n. is_in n (dones ++ ended)) (given lens recover retry gives made after sent back v gs i os more came rs1 (λ n. is_in n dones) (λ n. is_in n (dones ++ ended)))

    -- the slave behind it
    abbrev pub slave_by : Fate → Serves
    slave_by fate = served_behind lens recover retry gives made (record { sent = sent; fate = fate; back = back }) v

    -- WHAT IS KNOWN OF THE SLAVE over the frame
    pub record SlaveSteps (fate : Fate) : Type 0 where
      pub datagrams : List Raw.Datagram
      pub turn : IsServedTurn lens made datagrams w v
      pub number : ℕ
      pub forwards : ℕ
      pub oldest : ℕ
      pub begins_is : told_where begins i first ≡ begun_told i number forwards oldest v.turn.begun
      pub shows_is : told_where shows i second ≡ tells_by fate
      pub opened : (p : Passed) → v.hand ≡ Some p → v.turn.lived.life.stand ≡ Stand.Open
      pub own : TellsSo (slave_by fate)
      pub had : (p : Passed) → v.hand ≡ Some p → TellsOwn p v.turn.lived.life.era.passing v.turn.lived.life.era.side.now
      pub free : v.hand ≡ None → v.turn.lived.life.stand ≡ Stand.Open → v.turn.lived.life.era.passing ≡ None
      pub all : fate ≡ Pass → (p : Passed) → v.hand ≡ Some p → (x : Passing) → v.turn.lived.life.era.passing ≡ Some x → (slave_by Pass).lead.lived.life.era.passing ≡ None → AreAll (p.told ++ replies_in v.turn.lived.life.era.passing (accepted lens recover retry gives made sent back v gs i os more came rs1 (λ n. is_in n dones) (λ n. is_in n (dones ++ ended))))
      -- before the frame it is given up no more, and its rows are there; behind it once more, where the frame gives it up
      pub gave_next : gave_of (serves_of v).lead ≡ gave_of w.lead
      pub rows_next : AreBegun (suc made) (passed_rows v.turn.lived.life)
      pub spared : gives_it lens recover retry gives fate v ≡ false → gave_of (slave_by fate).lead ≡ gave_of (serves_of v).lead
      pub given_up : gives_it lens recover retry gives fate v ≡ true → gave_of (slave_by fate).lead ≡ gave_of (serves_of v).lead ++ made ∷ []

    -- ITS DESK BEHIND THE FRAME, and what each of its datagrams got
    pub record HasStepped (fate : Fate) : Type 0 where
      pub comes : List ℕ
      pub desk : IsDesk gs (os ++ more) i (slave_by fate) comes (waiting_of i rs2) (begun_of i rs2)
      pub fares : (number : ℕ) (asked : Mail) (o : IsOurs gs i number) → request_in o.gram.bytes ≡ Ok asked →
          Fares w came (waiting_of i rs) (begun_of i rs) (is_in number dones) number o.gram.frame asked (owed_for number os) →
          Fares (slave_by fate) comes (waiting_of i rs2) (begun_of i rs2) (is_in number (dones ++ ended)) number o.gram.frame asked (owed_for number (os ++ more))
      pub whole : HearsNoMore lens recover retry (record { sent = sent; fate = fate; back = back }) v → GivesAll os (λ n. is_in n dones) w came → GivesAll (os ++ more) (λ n. is_in n (dones ++ ended)) (slave_by fate) comes

    -- what is said of the slave's own requests is said of all
    to_all : (P : List Request → List Request → Type 0) (qs all : List Request) → requests_of i all ≡ qs → P (waiting_of i qs) (begun_of i qs) → P (waiting_of i all) (begun_of i all)
    to_all P qs all e p = subst (λ bs. P (waiting_of i all) bs) (begun_here i all) (subst (λ ws. P ws (begun_of i (requests_of i all))) (waits_here i all) (subst (λ z. P (waiting_of i z) (begun_of i z)) (sym e) p))

    to_own : (P : List Request → List Request → Type 0) (all : List Request) → P (waiting_of i all) (begun_of i all) → P (waiting_of i (requests_of i all)) (begun_of i (requests_of i all))
    to_own P all p = subst (λ bs. P (waiting_of i (requests_of i all)) bs) (sym (begun_here i all)) (subst (λ ws. P ws (begun_of i all)) (sym (waits_here i all)) p)

    -- ITS DESK BEFORE THE FRAME, and what each of its datagrams got
    module _ (once : AreOnce first) (own : (k : ℕ) → AreOf k rs (begins k)) (datagrams : List Raw.Datagram) (turn : IsServedTurn lens made datagrams w v) (number forwards oldest : ℕ) (is : told_where begins i first ≡ begun_told i number forwards oldest v.turn.begun) (gave : gave_of (serves_of v).lead ≡ gave_of w.lead) (early : All (λ (g : GramIn). g.frame ≤ made) gs) where
      pub slave_first : IsDesk gs os i w came (waiting_of i rs) (begun_of i rs) → HasBegun lens made datagrams w v turn gs i os came (requests_of i rs) (requests_of i rs1)
      slave_first d = subst (HasBegun lens made datagrams w v turn gs i os came (requests_of i rs))
          (sym (places_leave i 0 begins first rs once own ∙ ap (λ es. left_by_all es (requests_of i rs)) is))
          (slave_begins lens made datagrams w v turn gs i os came (requests_of i rs) gave early (to_own (IsDesk gs os i w came) rs d) number forwards oldest)

    module _ (a : AllKnown) where
      heard1 : All (IsHeard gs) rs1
      heard1 = events_keep (IsHeard gs) (λ r h. record { gram = h.gram; there = h.there; queued = h.queued }) (told_in begins first) rs a.orderly.heard

      undone1 : All (IsUndone dones) rs1
      undone1 = events_keep (IsUndone dones) (λ r u. u) (told_in begins first) rs a.orderly.undone

      apart1 : AreApart (requests_of i rs1)
      apart1 = unlike_filter (λ (r : Request). r.key) (λ r. refl) (is_of i) rs1 (events_unlike (λ (r : Request). r.key) (λ r. refl) (told_in begins first) rs a.orderly.apart)

      filed1 : AreFiled (waiting_of i (requests_of i rs1))
      filed1 = unlike_filter (λ (r : Request). r.gram) (λ r. refl) (waits_at i) (requests_of i rs1)
          (unlike_filter (λ (r : Request). r.gram) (λ r. refl) (is_of i) rs1 (events_unlike (λ (r : Request). r.gram) (λ r. refl) (told_in begins first) rs a.orderly.filed))

      -- those of this slave
      ours1 : All (λ (r : Request). IsOurs gs i r.gram) (requests_of i rs1)
      ours1 = λ k r less. (let h = All-filter (is_of i) (IsHeard gs) rs1 heard1 k r less in
          record { gram = h.gram; there = h.there; queued = h.queued ∙ ap Some (eqb-true (slice_index_or (requests_of i rs1) k r).slave i (filter_passes (is_of i) rs1 k r less)) })

      alone : (n : ℕ) → IsOurs gs i n → IsAlone i n rs1
      alone n o = λ k r less off s.
          (let h = heard1 k r less in
          let g : h.gram ≡ o.gram = (let all : Some h.gram ≡ Some o.gram = sym h.there ∙ ap (slice_get gs) s ∙ o.there in cc) in
          let q : (slice_index_or rs1 k r).slave ≡ i = (let all : Some (slice_index_or rs1 k r).slave ≡ Some i = sym h.queued ∙ ap (λ (z : GramIn). z.queued) g ∙ o.queued in cc) in
          off q)

      besides : OwesBesides gs i os more (requests_of i rs1) (told_where shows i second) (λ n. is_in n dones) (λ n. is_in n (dones ++ ended))
      besides = record {
        owed = λ n o.
            owed_append n os more
            ∙ ap (λ ms. owed_for n os ++ ms)
            (ap (owed_for n) (owed_is (told_in shows second) rs1) ∙ places_give i n shows owed_by owed_is_here (owed_for n) (owed_append n) refl (owed_none n) second rs1 a.orderly.once2 a.own2 (alone n o)
            ∙ ap (owed_for n) (sym (owed_is (told_where shows i second) (requests_of i rs1))));
        ended = λ n o.
            in_both n dones ended
            ∙ ap (λ z. if z then true else is_in n dones)
            (only_in n ended ∙ ap (is_in n) (places_give i n shows done_by done_is_here (only n) (only_append n) refl (done_none n) second rs1 a.orderly.once2 a.own2 (alone n o))
            ∙ sym (only_in n (done_by_all (told_where shows i second) (requests_of i rs1))));
      }

      module _ (fate : Fate) (s : SlaveSteps fate) (d : IsDesk gs os i w came (waiting_of i rs) (begun_of i rs)) where
        abbrev exchanged : Exchanged
        exchanged = record { sent = sent; fate = fate; back = back }

        begun1 : HasBegun lens made s.datagrams w v s.turn gs i os came (requests_of i rs) (requests_of i rs1)
        begun1 = slave_first a.orderly.once1 a.own1 s.datagrams s.turn s.number s.forwards s.oldest s.begins_is s.gave_next a.orderly.early d

        -- behind the frame
        stepped : HasTold gs i (serves_of v) (slave_by fate) os more begun1.comes (requests_of i rs1) (λ n. is_in n dones) (λ n. is_in n (dones ++ ended)) (told_besides v.hand v.turn.lived.life.era.passing (accepted_by lens recover retry exchanged fate v)) (left_by_all (tells_by fate) (requests_of i rs1)) → HasStepped fate
        stepped t = record {
          comes = begun1.comes;
          desk = to_all (IsDesk gs (os ++ more) i (slave_by fate) begun1.comes) (left_by_all (tells_by fate) (requests_of i rs1)) rs2 left2 t.desk;
          fares = λ number asked o request f.
              to_all (λ ws bs. Fares (slave_by fate) begun1.comes ws bs (is_in number (dones ++ ended)) number o.gram.frame asked (owed_for number (os ++ more))) (left_by_all (tells_by fate) (requests_of i rs1)) rs2 left2
              (t.fares number asked o request (begun1.fares (is_in number dones) number asked o.gram o.there request (to_own (λ ws bs. Fares w came ws bs (is_in number dones) number o.gram.frame asked (owed_for number os)) rs f)));
          whole = λ quiet all.
              t.whole (behind_heard lens recover retry gives made exchanged v s.had s.free quiet) (behind_over lens recover retry gives made exchanged v)
              (begun1.whole (λ n. is_in n dones) (All-filter (is_of i) (IsUndone dones) rs a.orderly.undone) all);
        }
          where
            left2 : requests_of i rs2 ≡ left_by_all (tells_by fate) (requests_of i rs1)
            left2 = places_leave i 0 shows second rs1 a.orderly.once2 a.own2 ∙ ap (λ es. left_by_all es (requests_of i rs1)) s.shows_is

      pub slave_steps : (fate : Fate) → SlaveSteps fate → IsDesk gs os i w came (waiting_of i rs) (begun_of i rs) → HasStepped fate
      slave_steps Pass s d = stepped Pass s d (
          slave_back lens recover retry gives made sent back v gs i os more (begun1 Pass s d).comes (requests_of i rs1) (λ n. is_in n dones) (λ n. is_in n (dones ++ ended))
          (record {
            opened = s.opened;
            own = s.own;
            all = s.all refl;
            gave = s.spared refl;
            apart = apart1;
            besides = subst (λ es. OwesBesides gs i os more (requests_of i rs1) es (λ n. is_in n dones) (λ n. is_in n (dones ++ ended))) s.shows_is besides;
            ours = ours1;
            undone = All-filter (is_of i) (IsUndone dones) rs1 undone1;
          })
          (begun1 Pass s d).desk
          )
      slave_steps (Lost after) s d = stepped (Lost after) s d (
          slave_lost lens recover retry gives made after sent back v gs i os more (begun1 (Lost after) s d).comes (requests_of i rs1) (λ n. is_in n dones) (λ n. is_in n (dones ++ ended))
          (record {
            opened = s.opened;
            own = s.own;
            spared = s.spared;
            given_up = s.given_up;
            early = a.orderly.early;
            rows = s.rows_next;
            filed = filed1;
            besides = subst (λ es. OwesBesides gs i os more (requests_of i rs1) es (λ n. is_in n dones) (λ n. is_in n (dones ++ ended))) s.shows_is besides;
            ours = ours1;
            undone = All-filter (is_of i) (IsUndone dones) rs1 undone1;
          })
          (begun1 (Lost after) s d).desk
          )
