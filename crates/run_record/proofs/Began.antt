-- WHAT CAME INTO HAND BESIDE THE SCRIPTS before a frame, as a master lists them and by the lives of its slaves, whatever else came into hand.
use Rattle.std.proofs.Common.{◌≡◌, ◌<◌, ◌≤◌, ◌+◌, ◌==◌, ℕ, zero, suc, Bool, true, false, Option, Some, None, List, [], ◌∷◌, ◌++◌, map, length, length-append, refl, sym, ap, ◌∙◌, subst, arith, append-nil}
use Rattle.std.specs.Prelude.{if◌then◌else◌}
use Rattle.std.proofs.Math.Nat.{mod-eq_of_lt}
use Rattle.std.proofs.lemmas.Bool.{eq-eqb, eqb-true}
use Rattle.std.proofs.lemmas.List.{length-map}
use Rattle.packets_heard.specs.of_master_node.Begins.{begun_of, is_other}
use Rattle.packets_heard.specs.of_master_node.Listing.{events_in, forwards_behind, told_in}
use Rattle.packets_heard.specs.of_master_node.Origins.{forwards_at}
use Rattle.packets_heard.specs.of_master_node.declared.event.Event.{Event}
use Rattle.packets_heard.specs.of_master_node.declared.event.Origin.{Origin}
use Rattle.packets_heard.specs.of_master_node.declared.node.MasterNode.{MasterNode}
use Rattle.plan_ring.specs.of_frame_view.View.{Lens}
use Rattle.plan_ring.specs.of_frame_view.Shares.{AllBoth}
use Rattle.served_places.specs.of_life_model.Lives.{Life}
use Rattle.served_places.specs.of_life_runs.Led.{Leads, Took, Turn, speech_at}
use Rattle.served_places.specs.of_master_duty.Reply.{Reply}
use Rattle.served_places.specs.of_state_model.Stated.{Service}
use Rattle.served_places.specs.of_master_hand.Spoken.{Asked, sdo, file, drive, net, passed}
use Rattle.packets_heard.specs.of_protocol_models.EoeClient as EoeClient
use Rattle.served_places.specs.of_master_tour.Made.{is_in}
use Rattle.served_places.specs.of_master_tour.Orders.{AreOnce}
use Rattle.served_places.specs.of_state_model.Accounts.{starts}
use Rattle.packets_heard.specs.Numbers.{each_with}
use Rattle.packets_heard.specs.Over.{packet_begun}
use Rattle.run_record.specs.Forwarded.{PacketsNoted}
use Rattle.run_notes.specs.of_run_book.declared.book.Begun.{Begun}
use Rattle.run_notes.specs.Packets.{AllBeside, BeginsOn, BesideAt, CameBeside, begun_noted, beside_at, beside_row, mail_row, mails_at, numbered_from, packet_row, packets_at, rows_at, rows_by, rows_with}
use Rattle.run_notes.specs.Reports.{AllReport}
use Rattle.run_notes.specs.Slaves.{first_notes}
use Rattle.run_notes.specs.declared.notes.Notes.{Notes}
use Rattle.run_notes.proofs.Packets.{mails_among, packets_among, rows_append, with_append}
use Rattle.served_places.specs.of_run_frames.ScriptAnswers.{turned}
use Rattle.served_places.specs.of_run_frames.Came.{is_beside}
use Rattle.served_places.specs.of_run_frames.Steps.{TurnsBy}
use Rattle.served_places.proofs.of_run_frames.Turns.{life_mails}
use Rattle.packets_heard.specs.of_segment_plan.declared.plan.Scenario.{Scenario}
use Rattle.packets_heard.specs.of_segment_plan.declared.service.Service as Plan
use Rattle.packets_heard.specs.of_segment_plan.declared.slave.SlaveSpec.{SlaveSpec}
use Rattle.served_places.specs.of_link_mails.Body.{Body}

-- ---- the slaves of which the master lists one

abbrev SlaveLife : Type 0
SlaveLife = Life Body Asked Reply

beside_turn : (lens : ℕ → Lens) (made : ℕ) (a : Leads) (u : Turn) (q : Asked) → TurnsBy lens made a u → u.begun ≡ Some (Service.Mails q) → is_beside (Service.Mails q) ≡ true → CameBeside (turned u)
beside_turn lens made a u q t e o =
    let took : u.lived.life.era.account.started ≡ starts a.lived.life.era.account (Service.Mails q) made = subst (λ z. Took made a.lived.life.era.account u.lived.life.era.account z) e t.took in
    let grew = ap (λ (l : SlaveLife). l.era.account.started) (sym t.next.life) ∙ took in
    let m = life_mails (speech_at lens a.lived.spot) made a.lived.life t.next.pick a.lived.life.stand refl q (t.begun ∙ e) grew in
    record { stand = ap (λ (l : SlaveLife). l.stand) t.next.life ∙ m.stand; service = Service.Mails q; is = o; frame = made; front = a.lived.life.era.account.started; started = took }

pub beside_place : (lens : ℕ → Lens) (made : ℕ) (as' : List Leads) (us : List Turn) → AllBoth (λ a u. TurnsBy lens made a u) as' us → (k : ℕ) (q : Asked) → begun_of us k ≡ Some (Service.Mails q) → is_beside (Service.Mails q) ≡ true → BesideAt (map turned us) k
beside_place lens made [] [] t k q e o = tt
beside_place lens made [] (u ∷ us) t k q e o = absurd t
beside_place lens made (a ∷ as') [] t k q e o = tt
beside_place lens made (a ∷ as') (u ∷ us) t zero q e o = beside_turn lens made a u q t.0 e o
beside_place lens made (a ∷ as') (u ∷ us) t (suc k) q e o = beside_place lens made as' us t.1 k q e o

beside_append : (bs : List Leads) (es fs : List Event) → AllBeside bs es → AllBeside bs fs → AllBeside bs (es ++ fs)
beside_append bs [] fs p q = q
beside_append bs (e ∷ es) fs p q = (p.0, beside_append bs es fs p.1 q)

all_told : (bs : List Leads) (tells : ℕ → List Event) → ((p : ℕ) → AllBeside bs (tells p)) → (ps : List ℕ) → AllBeside bs (told_in tells ps)
all_told bs tells each [] = tt
all_told bs tells each (p ∷ ps) = beside_append bs (tells p) (told_in tells ps) (each p) (all_told bs tells each ps)

-- ---- the rows that it lists

-- of a packet that came into hand
abbrev pub row_by : ℕ → ℕ → Option (Service Asked) → List (ℕ × ℕ)
row_by frame number None = []
row_by frame number (Some (Service.Mails q)) = if is_other q then [] else (number, frame) ∷ []
row_by frame number (Some (Service.State target)) = []

-- of what came into hand, by where that comes from
abbrev pub came_rows : (Service Asked → Origin) → ℕ → Option (Service Asked) → List Begun
came_rows origin frame None = []
came_rows origin frame (Some s) = beside_row (origin s) frame

abbrev none_rows : List Begun
none_rows = []

-- of the slave at a place, where nothing came into hand, and where something did from there
pub no_row : (b : Bool) → none_rows ≡ (if b then none_rows else none_rows)
no_row true = refl
no_row false = refl

pub one_row : (frame : ℕ) (b : Bool) (origin : Origin) → (if b then beside_row origin frame else none_rows) ++ none_rows ≡ (if b then beside_row origin frame else none_rows)
one_row frame b origin = append-nil (if b then beside_row origin frame else none_rows)

-- what is told of the slave at a place
abbrev pub RowsAt : ℕ → (ℕ → List Begun) → (ℕ → List Event) → Type 0
RowsAt frame rows tells = (k p : ℕ) → rows_by frame k (tells p) ≡ (if p == k then rows p else [])

in_rows : (frame k : ℕ) (rows : ℕ → List Begun) (tells : ℕ → List Event) → RowsAt frame rows tells → (ps : List ℕ) → AreOnce ps → rows_by frame k (told_in tells ps) ≡ (if is_in k ps then rows k else [])
in_rows frame k rows tells each [] o = refl
in_rows frame k rows tells each (p ∷ ps) o = rows_append frame k (tells p) (told_in tells ps) ∙ (λ i. each k p i ++ in_rows frame k rows tells each ps o.1 i) ∙ go (k == p) refl
  where
    go : (z : Bool) → (k == p) ≡ z → (if p == k then rows p else []) ++ (if is_in k ps then rows k else []) ≡ (if (if k == p then true else is_in k ps) then rows k else [])
    go true f =
        let q : k ≡ p = eqb-true k p f in
        let out : is_in k ps ≡ false = subst (λ j. is_in j ps ≡ false) (sym q) o.0 in
        (λ i. (if eq-eqb p k (sym q) i then rows (sym q i) else []) ++ (if out i then rows k else []))
        ∙ append-nil (rows k) ∙ ap (λ (z : Bool). if (if z then true else is_in k ps) then rows k else []) (sym f)
    go false f =
        let away : (p == k) ≡ false = not_back (p == k) refl f in
        ap (λ (z : Bool). (if z then rows p else []) ++ (if is_in k ps then rows k else [])) away
        ∙ ap (λ (z : Bool). if (if z then true else is_in k ps) then rows k else []) (sym f)
      where
        not_back : (z : Bool) → (p == k) ≡ z → (k == p) ≡ false → (p == k) ≡ false
        not_back true e n = absurd (let w = eq-eqb k p (sym (eqb-true p k e)) in let bad : true ≡ false = sym w ∙ n in cc)
        not_back false e n = e

-- JUST WHAT CAME INTO HAND BESIDE THE SCRIPTS IS LISTED, of slaves that have it: packets, which are counted, and these mails that are passed on
pub record ListsPackets (bs : List Leads) (frame : ℕ) (forwards : ℕ → ℕ) (b : ℕ → Option (Service Asked)) (mails : ℕ → List (ℕ × ℕ)) (m : MasterNode) : Type 0 where
  pub beside : AllBeside bs (events_in m)
  pub packets : (k : ℕ) → rows_with packet_row (rows_by frame k (events_in m)) ≡ row_by frame (forwards k) (b k)
  pub mailed : (k : ℕ) → rows_with mail_row (rows_by frame k (events_in m)) ≡ mails k
  pub counts : (k : ℕ) → forwards_at m.posts.items k ≡ forwards_behind (forwards k) (b k)

module _ (bs : List Leads) (frame : ℕ) (forwards : ℕ → ℕ) (b : ℕ → Option (Service Asked)) (mails : ℕ → List (ℕ × ℕ)) (m : MasterNode) (tells : ℕ → List Event) (origins : ℕ → Service Asked → Origin) where
  -- the rows of the slave at a place
  abbrev pub rows : ℕ → List Begun
  rows k = came_rows (origins k) frame (b k)

  pub lists_packets : ((p : ℕ) → AllBeside bs (tells p)) → RowsAt frame rows tells → (visited : List ℕ) → AreOnce visited → events_in m ≡ told_in tells visited → ((k : ℕ) → is_in k visited ≡ false → b k ≡ None) →
      ((k : ℕ) → rows_with packet_row (rows k) ≡ row_by frame (forwards k) (b k)) → ((k : ℕ) → rows_with mail_row (rows k) ≡ mails k) → ((k : ℕ) → forwards_at m.posts.items k ≡ forwards_behind (forwards k) (b k)) → ListsPackets bs frame forwards b mails m
  lists_packets has each visited once listed others packets mailed counts = record {
    beside = subst (λ z. AllBeside bs z) (sym listed) (all_told bs tells has visited);
    packets = λ k. ap (λ z. rows_with packet_row z) (all k) ∙ packets k;
    mailed = λ k. ap (λ z. rows_with mail_row z) (all k) ∙ mailed k;
    counts = counts;
  }
    where
      go : (k : ℕ) (z : Bool) → is_in k visited ≡ z → (if z then rows k else []) ≡ rows k
      go k true e = refl
      go k false e = ap (λ z. came_rows (origins k) frame z) (sym (others k e))

      all : (k : ℕ) → rows_by frame k (events_in m) ≡ rows k
      all k = ap (λ z. rows_by frame k z) listed ∙ in_rows frame k rows tells each visited once ∙ go k (is_in k visited) refl

-- ---- by the frames before which they came into hand

row_frames : (frame number : ℕ) (b : Option (Service Asked)) → row_by frame number b ≡ numbered_from number (each_with frame (packet_begun b))
row_frames frame number None = refl
row_frames frame number (Some (Service.State target)) = refl
row_frames frame number (Some (Service.Mails (sdo q))) = refl
row_frames frame number (Some (Service.Mails (file q))) = refl
row_frames frame number (Some (Service.Mails (drive q))) = refl
row_frames frame number (Some (Service.Mails (net (EoeClient.set_ip block)))) = refl
row_frames frame number (Some (Service.Mails (net EoeClient.get_ip))) = refl
row_frames frame number (Some (Service.Mails (net (EoeClient.packet octets n)))) = refl
row_frames frame number (Some (Service.Mails (passed m))) = refl

counted_frames : (frame n : ℕ) (b : Option (Service Asked)) → n + 1 < 4294967296 → forwards_behind n b ≡ n + length (each_with frame (packet_begun b))
counted_frames frame n None l = omega arith
counted_frames frame n (Some (Service.State target)) l = omega arith
counted_frames frame n (Some (Service.Mails (sdo q))) l = omega arith
counted_frames frame n (Some (Service.Mails (file q))) l = omega arith
counted_frames frame n (Some (Service.Mails (drive q))) l = omega arith
counted_frames frame n (Some (Service.Mails (net (EoeClient.set_ip block)))) l = omega arith
counted_frames frame n (Some (Service.Mails (net EoeClient.get_ip))) l = omega arith
counted_frames frame n (Some (Service.Mails (net (EoeClient.packet octets i)))) l = mod-eq_of_lt l
counted_frames frame n (Some (Service.Mails (passed m))) l = omega arith

pub numbered_append : (n : ℕ) (fs gs : List ℕ) → numbered_from n (fs ++ gs) ≡ numbered_from n fs ++ numbered_from (n + length fs) gs
numbered_append n [] gs = ap (λ k. numbered_from k gs) (let e : n ≡ n + 0 = omega arith in e)
numbered_append n (f ∷ fs) gs = ap (λ z. (n, f) ∷ z) (numbered_append (suc n) fs gs ∙ ap (λ k. numbered_from (suc n) fs ++ numbered_from k gs) (let e : suc n + length fs ≡ n + suc (length fs) = omega arith in e))

pub few_one : (frame : ℕ) (b : Option (Service Asked)) → length (each_with frame (packet_begun b)) ≤ 1
few_one frame None = omega arith
few_one frame (Some (Service.State target)) = omega arith
few_one frame (Some (Service.Mails (sdo q))) = omega arith
few_one frame (Some (Service.Mails (file q))) = omega arith
few_one frame (Some (Service.Mails (drive q))) = omega arith
few_one frame (Some (Service.Mails (net (EoeClient.set_ip block)))) = omega arith
few_one frame (Some (Service.Mails (net EoeClient.get_ip))) = omega arith
few_one frame (Some (Service.Mails (net (EoeClient.packet octets i)))) = omega arith
few_one frame (Some (Service.Mails (passed m))) = omega arith

-- ONE FRAME MORE: where so few came into hand before
module _ (frames : ℕ → List ℕ) (mails more : ℕ → List (ℕ × ℕ)) (made : ℕ) (less : (k : ℕ) → length (frames k) ≤ made) (few : made + 1 < 4294967296) (as' bs : List Leads) (b : ℕ → Option (Service Asked)) (m0 m1 m2 : MasterNode) (old mid new : List Notes)
    (w : PacketsNoted frames mails m0 old) (x : ListsPackets bs made (λ k. forwards_at m0.posts.items k) b more m1) (kept : (k : ℕ) → forwards_at m2.posts.items k ≡ forwards_at m1.posts.items k) (many : length mid ≡ length old) (same : begun_noted new ≡ begun_noted mid)
    (begins : BeginsOn made m1 old mid as' bs) (told : AllReport as' old) where
  -- the frames of the packets that came into hand of a slave, and all rows
  abbrev packets : ℕ → List ℕ
  packets k = each_with made (packet_begun (b k))

  abbrev listed : ℕ → List Begun
  listed k = rows_by made k (events_in m1)

  inside : (k : ℕ) → k < length (begun_noted new) → k < length old
  inside k l =
      let middle = length-map mid (λ (n : Notes). n.begun) in
      let long = ap length same in
      omega (arith, l, long, middle, many)

  within : (k : ℕ) → k < length (begun_noted new) → k < length (begun_noted old)
  within k l =
      let here = inside k l in
      let before = length-map old (λ (n : Notes). n.begun) in
      omega (arith, here, before)

  grown : (k : ℕ) → k < length (begun_noted new) → beside_at (begun_noted new) k ≡ beside_at (begun_noted old) k ++ listed k
  grown k l = ap (λ z. beside_at z k) same ∙ begins told x.beside k (inside k l)

  pub noted_on : PacketsNoted (λ k. frames k ++ each_with made (packet_begun (b k))) (λ k. mails k ++ more k) m2 new
  noted_on = record {
    counts = λ k.
        let fewer = less k in
        kept k ∙ x.counts k ∙ ap (λ z. forwards_behind z (b k)) (w.counts k) ∙ counted_frames made (length (frames k)) (b k) (omega (arith, fewer, few)) ∙ sym (length-append (frames k) (packets k));
    rows = λ k l.
        let zero : length (frames k) ≡ 0 + length (frames k) = omega arith in
        sym (packets_among (begun_noted new) k) ∙ ap (λ z. rows_with packet_row z) (grown k l) ∙ with_append packet_row (beside_at (begun_noted old) k) (listed k)
        ∙ (λ i. (packets_among (begun_noted old) k ∙ w.rows k (within k l)) i ++ (x.packets k ∙ ap (λ z. row_by made z (b k)) (w.counts k) ∙ row_frames made (length (frames k)) (b k) ∙ ap (λ z. numbered_from z (packets k)) zero) i)
        ∙ sym (numbered_append 0 (frames k) (packets k));
    mailed = λ k l.
        sym (mails_among (begun_noted new) k) ∙ ap (λ z. rows_with mail_row z) (grown k l) ∙ with_append mail_row (beside_at (begun_noted old) k) (listed k)
        ∙ (λ i. (mails_among (begun_noted old) k ∙ w.mailed k (within k l)) i ++ x.mailed k i);
  }

-- before the first frame
none_noted : {X : Type 0} (row : Origin → ℕ → List X) (services : List (ℕ × Plan.Service)) (number : ℕ) (ss : List SlaveSpec) (k : ℕ) → rows_at row (begun_noted (first_notes services number ss)) k ≡ []
none_noted row services number [] k = refl
none_noted row services number (s ∷ ss) zero = refl
none_noted row services number (s ∷ ss) (suc k) = none_noted row services (number + 1) ss k

pub packets_first : (plan : Scenario) (m : MasterNode) (notes : List Notes) → ((k : ℕ) → forwards_at m.posts.items k ≡ 0) → notes ≡ first_notes plan.services 0 plan.slaves → PacketsNoted (λ k. []) (λ k. []) m notes
packets_first plan m notes none first = record {
  counts = none;
  rows = λ k l. ap (λ (ns : List Notes). packets_at (begun_noted ns) k) first ∙ none_noted packet_row plan.services 0 plan.slaves k;
  mailed = λ k l. ap (λ (ns : List Notes). mails_at (begun_noted ns) k) first ∙ none_noted mail_row plan.services 0 plan.slaves k;
}
