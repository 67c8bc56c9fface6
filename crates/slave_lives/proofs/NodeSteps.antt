-- A STEP of a running slave's processor, in whatever state it is, is what the session's step says.
use Rattle.std.proofs.Common.{◌≡◌, ℕ, ◌+◌, ◌-◌, ◌<◌, ◌==◌, ◌&&◌, Bool, true, false, not, length, refl, ap, ap₂, sym, ◌∙◌, subst, arith, length-append}
use Rattle.std.specs.Prelude.{Option, Some, None, if◌then◌else◌, replicate}
use Rattle.std.specs.Option.{ForSome}
use Rattle.std.proofs.lemmas.List.{length-replicate}
use Rattle.frames_seen.specs.of_mailbox_mail.declared.mail.Mail.{Mail}
use Rattle.frames_seen.specs.of_mailbox_mail.Area.{mail_area}
use Rattle.frames_seen.specs.of_al_state.declared.machine.Al.{Al}
use Rattle.frames_seen.specs.of_esc_registers.declared.registers.Registers as Esc
use Rattle.frames_seen.specs.of_esc_registers.Manager.{is_right, is_enabled, is_repeat_asked}
use Rattle.frames_seen.specs.of_link_model.Counters.{next_counter, repeats}
use Rattle.frames_seen.specs.of_link_model.Slave as Model
use Rattle.frames_seen.specs.of_link_model.Slave.{Node, Server, node_look, node_serve}
use Rattle.frames_seen.specs.of_ec_fields.Fields.{bits_of}
use Rattle.frames_seen.specs.of_link_mails.Body.{Body, counted_as}
use Rattle.frames_seen.specs.of_mailbox_slave.Kept.{Kept}
use Rattle.frames_seen.specs.of_mailbox_slave.Registers.{in_len, in_box, out_box, request_of, acknowledge_of}
use Rattle.frames_seen.specs.of_mailbox_slave.Node.{node_of, server_of}
use Rattle.frames_seen.specs.of_mailbox_slave.Exact as Exact
use Rattle.frames_seen.specs.of_mailbox_slave.Exact.{Boxes, with_acknowledge, kept_noticed, last_repeated, request_answered, boxes_looked, out_mail, is_free, mail_served, next_offered, mail_offered, slave_served}
use Rattle.frames_seen.specs.of_segment_model.Slaves.{Registers}
use Rattle.frames_seen.specs.of_slave_node.Node as Running
use Rattle.frames_seen.specs.of_slave_node.Node.{is_init, new_box}
use Rattle.frames_seen.specs.of_slave_node.Step.{looked, shown, al_asked, al_behind, word_behind, served, returned, status_word}
use Rattle.frames_seen.proofs.of_slave_node.Init.{stays_new}
use Rattle.frames_seen.specs.Slaves.{registers_seen}
use Rattle.slave_lives.specs.Steps as The
use Rattle.slave_lives.specs.Steps.{KeepsOthers, node_steps, node_answered, node_cleared, word_carried}
use Rattle.slave_lives.specs.Returning.{Clears, IsNewBox}
use Rattle.slave_lives.specs.Nodes.{IsPlaced, IsKept, GivesPlaced, IsRoomy, IsShown, IsRunning, stepped, StepsOn}
use Rattle.slave_lives.proofs.Exacts.{looked_node, answered_node, taken_node, taken_by, offered_is, noticed_kept, answered_kept, offered_kept}
use Rattle.slave_lives.proofs.Opens.{kept_right}
use Rattle.slave_lives.proofs.Turning.{renewed, new_node, answers}
use Rattle.slave_lives.proofs.Words.{Carried, carried_out, shows_state, status_small}
use Rattle.frames_seen.specs.of_state_model.States as States
use Rattle.frames_seen.specs.Shows.{slave_table}

placed_len : (len : ℕ) (m : Mail) → IsPlaced len m → length (mail_area len m) ≡ len
placed_len len m p =
    let k : ℕ = len - (6 + length m.body.items) in
    let fits = p.fits in
    omega (arith, length-append m.body.items (replicate k 0), length-replicate {A = ℕ} k 0)

-- one change behind another
pub keeps_on : (r p q : Esc.Registers) → KeepsOthers r p → KeepsOthers p q → KeepsOthers r q
keeps_on r p q a b =
    let onto : Esc.Registers → Esc.Registers = λ x. record x {
      unhandled = q.unhandled;
      al_status = q.al_status;
      al_code = q.al_code;
      out_manager = record x.out_manager { full = q.out_manager.full };
      in_manager = record x.in_manager { full = q.in_manager.full; area = q.in_manager.area; acknowledge = q.in_manager.acknowledge };
    } in
    record { others = b.others ∙ ap onto a.others; len = b.len ∙ a.len }

-- what the box changes: neither the AL state nor the word that waits
record BoxOnly (r q : Esc.Registers) : Type 0 where
  keeps : KeepsOthers r q
  unhandled : q.unhandled ≡ r.unhandled
  status : q.al_status ≡ r.al_status
  code : q.al_code ≡ r.al_code

still : (r : Esc.Registers) → BoxOnly r r
still r = record { keeps = record { others = refl; len = refl }; unhandled = refl; status = refl; code = refl }

box_on : (r p q : Esc.Registers) → BoxOnly r p → BoxOnly p q → BoxOnly r q
box_on r p q a b = record { keeps = keeps_on r p q a.keeps b.keeps; unhandled = b.unhandled ∙ a.unhandled; status = b.status ∙ a.status; code = b.code ∙ a.code }

answered_box : (k : Kept) (r : Esc.Registers) → ForSome k.last_read (IsPlaced (in_len r)) → BoxOnly r (request_answered k r).registers
answered_box k r placed = go (is_repeat_asked r.in_manager)
  where
    once : (last : Option Mail) (again : Bool) → ForSome last (IsPlaced (in_len r)) → BoxOnly r (with_acknowledge (last_repeated (record k { again = again }) r last).registers)
    once None again p = record { keeps = record { others = refl; len = refl }; unhandled = refl; status = refl; code = refl }
    once (Some m) true p = record { keeps = record { others = refl; len = refl }; unhandled = refl; status = refl; code = refl }
    once (Some m) false p = record { keeps = record { others = refl; len = placed_len (in_len r) m (p m refl) }; unhandled = refl; status = refl; code = refl }

    go : (c : Bool) → BoxOnly r (let b : Boxes = if c then (let b = last_repeated k r k.last_read in record b { registers = with_acknowledge b.registers }) else record { kept = k; registers = r } in b).registers
    go true = once k.last_read k.again placed
    go false = still r

module _ {S : Type 0} (u : The.Running S) (al : ℕ) where
  taken_box : (k : Kept) (r : Esc.Registers) (s : S) (full again free : Bool) → BoxOnly r (taken_by u al k r s full again free).registers
  taken_box k r s false again free = record { keeps = record { others = refl; len = refl }; unhandled = refl; status = refl; code = refl }
  taken_box k r s true true free = record { keeps = record { others = refl; len = refl }; unhandled = refl; status = refl; code = refl }
  taken_box k r s true false true = record { keeps = record { others = refl; len = refl }; unhandled = refl; status = refl; code = refl }
  taken_box k r s true false false = record { keeps = record { others = refl; len = refl }; unhandled = refl; status = refl; code = refl }

  recounted : (len c : ℕ) (m : Mail) → IsPlaced len m → IsPlaced len (counted_as (next_counter c) m)
  recounted len c m p = record { counted = omega arith; addressed = p.addressed; short = p.short; fits = p.fits }

  offered_box : (k : Kept) (r : Esc.Registers) (s : S) → IsKept (in_len r) k → GivesPlaced u (in_len r) s → BoxOnly r (mail_offered u.next u.rest k r s).registers
  offered_box k r s keeps gives = go r.in_manager.full
    where
      once : (w x : Option Mail) → ForSome w (IsPlaced (in_len r)) → ForSome x (IsPlaced (in_len r)) → BoxOnly r (next_offered u.rest k r s w x).registers
      once (Some m) x p g = record { keeps = record { others = refl; len = placed_len (in_len r) m (p m refl) }; unhandled = refl; status = refl; code = refl }
      once None (Some m) p g = record { keeps = record { others = refl; len = placed_len (in_len r) (counted_as (next_counter k.newest) m) (recounted (in_len r) k.newest m (g m refl)) }; unhandled = refl; status = refl; code = refl }
      once None None p g = still r

      go : (full : Bool) → BoxOnly r (if full then record { kept = k; registers = r; server = s } else next_offered u.rest k r s k.withdrawn (u.next s)).registers
      go true = still r
      go false = once k.withdrawn (u.next s) keeps.withdrawn gives

  taken_kept : (len : ℕ) (k : Kept) (r : Esc.Registers) (s : S) (full again free : Bool) → IsKept len k → IsKept len (taken_by u al k r s full again free).kept
  taken_kept len k r s false again free keeps = keeps
  taken_kept len k r s true true free keeps = keeps
  taken_kept len k r s true false true keeps = record { last_read = keeps.last_read; fresh = keeps.fresh; withdrawn = keeps.withdrawn; again = keeps.again }
  taken_kept len k r s true false false keeps = keeps

  taken_server : (len : ℕ) (k : Kept) (r : Esc.Registers) (s : S) (full again free : Bool) → IsRoomy u len s → GivesPlaced u len (taken_by u al k r s full again free).server
  taken_server len k r s false again free roomy = roomy.now
  taken_server len k r s true true free roomy = roomy.now
  taken_server len k r s true false true roomy = roomy.taken (out_mail r).body al
  taken_server len k r s true false false roomy = roomy.now

  -- STEPS 4 AND 5
  record Serves (k : Kept) (r : Esc.Registers) (s : S) (t : Exact.Slave S) : Type 0 where
    node : node_of t.kept t.registers t.server ≡ node_serve (server_of u.take u.next u.rest al) (node_of k r s)
    box : BoxOnly r t.registers
    kept : IsKept (in_len t.registers) t.kept

  serves : (k : Kept) (r : Esc.Registers) (s : S) → IsKept (in_len r) k → IsRoomy u (in_len r) s → Serves k r s (slave_served u.take u.next u.rest al k r s)
  serves k r s keeps roomy =
      let t = mail_served u.take u.next al k r s in
      let full = r.out_manager.full in
      let again = repeats k.last_taken (out_mail r).counter in
      let free = is_free k r (u.next s) in
      let first = taken_box k r s full again free in
      let len = first.keeps.len in
      let kept : IsKept (in_len t.registers) t.kept = subst (λ (n : ℕ). IsKept n t.kept) (sym len) (taken_kept (in_len r) k r s full again free keeps) in
      let gives : GivesPlaced u (in_len t.registers) t.server = subst (λ (n : ℕ). GivesPlaced u n t.server) (sym len) (taken_server (in_len r) k r s full again free roomy) in
      let second = offered_box t.kept t.registers t.server kept gives in
      let last = mail_offered u.next u.rest t.kept t.registers t.server in
      record {
        node = offered_is u al t.kept t.registers t.server kept gives ∙ ap (λ n. Model.node_offer (server_of u.take u.next u.rest al) n) (taken_node u al k r s);
        box = box_on r t.registers last.registers first second;
        kept = subst (λ (n : ℕ). IsKept n last.kept) (sym second.keeps.len) (offered_kept u al t.kept t.registers t.server kept gives);
      }

-- what the box leaves is seen alike
seen_box : (r q : Esc.Registers) → BoxOnly r q → registers_seen q ≡ registers_seen r
seen_box r q b = λ i. record {
  station = station i;
  first = first i;
  second = second i;
  control = control i;
  state = bits_of (b.status i) 0 4;
  refused = if bits_of (b.status i) 4 1 == 1 then Some (b.code i) else None;
}
  where
    station : q.station ≡ r.station
    station = ap (λ x. x.station) b.keeps.others

    first : is_right 4096 38 q.out_manager ≡ is_right 4096 38 r.out_manager
    first = ap (λ x. is_right 4096 38 x.out_manager) b.keeps.others

    second : is_right 6144 34 q.in_manager ≡ is_right 6144 34 r.in_manager
    second = ap (λ x. is_right 6144 34 x.in_manager) b.keeps.others ∙ ap (λ l. r.in_manager.start == 6144 && r.in_manager.length == l && r.in_manager.control == 34 && is_enabled r.in_manager.activate) b.keeps.len

    control : (registers_seen q).control ≡ (registers_seen r).control
    control = ap₂ (λ (w : ℕ) (h : Bool). if h then Some (bits_of w 0 4, not (bits_of w 4 1 == 0)) else None) (ap (λ x. x.al_control) b.keeps.others) b.unhandled

shown_box : (r q : Esc.Registers) (al : Al) → BoxOnly r q → IsShown r al → IsShown q al
shown_box r q al b s = record { status = b.status ∙ s.status; code = b.code ∙ s.code; state = s.state; error = s.error }

node_word : {S : Type 0} (boot : Bool) (k : Kept) (r : Esc.Registers) (al : Al) (s : S) → node_of k (word_behind boot r al) s ≡ node_of k r s
node_word boot k r al s = go r.unhandled
  where
    go : (b : Bool) → node_of k (if b then shown r (al_asked boot r al) else r) s ≡ node_of k r s
    go true = refl
    go false = refl

word_asked : (boot : Bool) (r : Esc.Registers) (al : Al) → r.unhandled ≡ false → al_behind boot r al ≡ al
word_asked boot r al e = ap (λ (b : Bool). if b then al_asked boot r al else al) e

new_is : (k : Kept) → k ≡ new_box → IsNewBox k
new_is k e = subst IsNewBox (sym e) (record { last_taken = refl; offers = refl; again = refl; last_read = refl; withdrawn = refl; newest = refl })

pub kept_new : (len : ℕ) → IsKept len new_box
kept_new len = record { last_read = λ m is. absurd (cc); fresh = λ m is. absurd (cc); withdrawn = λ m is. absurd (cc); again = λ is. absurd (cc) }

-- STEPS 1 AND 2, in Init step 2 alone
record Looks {S : Type 0} (al : Al) (k : Kept) (r : Esc.Registers) (s : S) (b : Boxes) : Type 0 where
  node : node_of b.kept b.registers s ≡ (if is_init al then node_answered (node_of k r s) else node_look (node_of k r s))
  box : BoxOnly r b.registers
  kept : IsKept (in_len b.registers) b.kept

looks_on : {S : Type 0} (al : Al) (k : Kept) (r : Esc.Registers) (s : S) → IsKept (in_len r) k → Looks al k r s (looked al k r)
looks_on al k r s keeps = record {
  node = node (is_init al);
  box = box (is_init al);
  kept = subst (λ (n : ℕ). IsKept n (looked al k r).kept) (sym (box (is_init al)).keeps.len) (kept (is_init al));
}
  where
    n : Kept
    n = kept_noticed k r.in_manager.full

    noticed : IsKept (in_len r) (kept_noticed k r.in_manager.full)
    noticed = noticed_kept (in_len r) k r.in_manager.full keeps

    node : (b : Bool) → node_of (if b then request_answered k r else boxes_looked k r).kept (if b then request_answered k r else boxes_looked k r).registers s ≡ (if b then node_answered (node_of k r s) else node_look (node_of k r s))
    node true = answered_node k r s keeps
    node false = looked_node k r s keeps

    box : (b : Bool) → BoxOnly r (if b then request_answered k r else boxes_looked k r).registers
    box true = answered_box k r keeps.last_read
    box false = answered_box (kept_noticed k r.in_manager.full) r noticed.last_read

    kept : (b : Bool) → IsKept (in_len r) (if b then request_answered k r else boxes_looked k r).kept
    kept true = answered_kept (in_len r) k r keeps
    kept false = answered_kept (in_len r) (kept_noticed k r.in_manager.full) r noticed

module _ {S : Type 0} (u : The.Running S) (clears : Clears u) (n : Running.Node S) (runs : IsRunning u n) (roomy : IsRoomy u (in_len n.registers) n.server) where
  abbrev r : Esc.Registers
  r = n.registers

  abbrev k : Kept
  k = n.kept

  abbrev s : S
  s = n.server

  abbrev b : Boxes
  b = looked n.al n.kept n.registers

  abbrev to : Al
  to = al_behind n.boot b.registers n.al

  abbrev w : Esc.Registers
  w = word_behind n.boot b.registers n.al

  abbrev looked_as : Node Body S
  looked_as = if is_init n.al then node_answered (node_of k r s) else node_look (node_of k r s)

  abbrev server_now : ℕ → Server Body S
  server_now al = server_of u.take u.next u.rest al

  first : Looks n.al k r s b
  first = looks_on n.al k r s runs.kept

  word : Carried n.boot b.registers n.al w to
  word = carried_out n.boot b.registers n.al (shown_box r b.registers n.al first.box runs.shows)

  -- what the model carries out, by the registers as they stood
  seen : registers_seen w ≡ word_carried n.boot r
  seen = word.seen ∙ ap₂ (λ (a : Bool) (q : Registers). States.carry (slave_table n.boot a) q) (kept_right r b.registers first.box.keeps) (seen_box r b.registers first.box)

  state : (word_carried n.boot r).state ≡ to.state
  state = sym (ap (λ (q : Registers). q.state) seen) ∙ shows_state w to word.shows

  before : ((registers_seen r).state == 1) ≡ is_init n.al
  before = ap (λ (x : ℕ). x == 1) (shows_state r n.al runs.shows)

  node_here : node_of b.kept w s ≡ looked_as
  node_here = node_word n.boot b.kept b.registers n.al s ∙ first.node

  kept_here : IsKept (in_len w) b.kept
  kept_here = subst (λ (m : ℕ). IsKept m b.kept) (sym word.keeps.len) first.kept

  keeps_here : KeepsOthers r w
  keeps_here = keeps_on r b.registers w first.box.keeps word.keeps

  roomy_here : IsRoomy u (in_len w) s
  roomy_here = subst (λ (m : ℕ). IsRoomy u m s) (sym keeps_here.len) roomy

  -- the node as the session's step has it, in terms of the AL state before and behind
  node_as : (m : Running.Node S) → node_of m.kept m.registers m.server ≡ (if is_init to then node_cleared u.clear looked_as else node_serve (server_now to.state) looked_as) →
      node_of m.kept m.registers m.server ≡ node_steps ((registers_seen r).state == 1) ((word_carried n.boot r).state == 1) (server_now (word_carried n.boot r).state) u.clear (node_of k r s)
  node_as m e = e
      ∙ sym ((λ i. node_steps (before i) (state i == 1) (server_now (state i)) u.clear (node_of k r s)))

  behind : (m : Running.Node S) → m.boot ≡ n.boot → m.al ≡ to → BoxOnly w m.registers → IsKept (in_len m.registers) m.kept → (is_init to ≡ true → (m.kept ≡ new_box) × (u.clear m.server ≡ m.server)) →
      node_of m.kept m.registers m.server ≡ (if is_init to then node_cleared u.clear looked_as else node_serve (server_now to.state) looked_as) → StepsOn u n m
  behind m boot al box kept init node =
      let shows = shown_box w m.registers to box word.shows in
      let status : m.registers.al_status ≡ status_word to = shows.status in
      let code : m.registers.al_code ≡ to.error = shows.code in
      let small = status_small to shows.state in
      let few = shows.error in
      record {
        runs = record {
          shows = subst (λ (a : Al). IsShown m.registers a) (sym al) shows;
          kept = kept;
          init = λ is. (init (sym (ap is_init al) ∙ is)).0;
          cleared = λ is. (init (sym (ap is_init al) ∙ is)).1;
        };
        keeps = keeps_on r w m.registers keeps_here box.keeps;
        steps = record { registers = seen_box w m.registers box ∙ seen; node = node_as m node };
        status = subst (λ (x : ℕ). x < 32) (sym status) small;
        code = subst (λ (x : ℕ). x < 65536) (sym code) few;
        boot = boot;
      }

  abbrev mid : Running.Node S
  mid = record n { kept = b.kept; registers = w; al = to }

  -- in Init with no word: the box was new, and only the request is answered
  idle : is_init to ≡ true → b.registers.unhandled ≡ false → (b.kept ≡ new_box) × (u.clear s ≡ s) × (node_of b.kept w s ≡ node_cleared u.clear looked_as)
  idle init none =
      let same : to ≡ n.al = word_asked n.boot b.registers n.al none in
      let was : is_init n.al ≡ true = sym (ap is_init same) ∙ init in
      let new = runs.init was in
      let clear = runs.cleared was in
      let start = new_node k r s (new_is k new) in
      let out = out_box r in
      let inn = in_box r in
      let asks = request_of r in
      let ack = acknowledge_of r in
      let by_init : looked_as ≡ node_answered (node_of k r s) = ap (λ (c : Bool). if c then node_answered (node_of k r s) else node_look (node_of k r s)) was in
      let here : looked_as ≡ renewed out inn asks asks s = by_init ∙ ap (λ (x : Node Body S). node_answered x) start ∙ answers out inn asks ack s in (
        stays_new n.al k b.kept r b.registers runs.init refl was,
        clear,
        node_here ∙ here ∙ sym (ap (λ (x : Node Body S). node_cleared u.clear x) here ∙ ap (renewed out inn asks asks) clear),
      )

  -- THE STEP
  pub steps_on : StepsOn u n (stepped u n)
  steps_on = go (is_init to) refl b.registers.unhandled refl
    where
      go : (c : Bool) → is_init to ≡ c → (asked : Bool) → b.registers.unhandled ≡ asked →
          StepsOn u n (if c then (if asked then returned u.take u.next u.rest u.clear mid else mid) else served u.take u.next u.rest u.clear mid)
      go true init true asked =
          behind (returned u.take u.next u.rest u.clear mid) refl refl (record { keeps = record { others = refl; len = refl }; unhandled = refl; status = refl; code = refl })
          (kept_new (in_len w)) (λ is. (refl, clears.again s))
          (ap (λ (x : Node Body S). node_cleared u.clear x) node_here ∙ sym (ap (λ (c : Bool). if c then node_cleared u.clear looked_as else node_serve (server_now to.state) looked_as) init))
      go true init false none =
          let i = idle init none in
          behind mid refl refl (still w) kept_here (λ is. (i.0, i.1))
          (i.2 ∙ sym (ap (λ (c : Bool). if c then node_cleared u.clear looked_as else node_serve (server_now to.state) looked_as) init))
      go false up asked e =
          let t = serves u to.state b.kept w s kept_here roomy_here in
          behind (served u.take u.next u.rest u.clear mid) refl refl t.box t.kept (λ is. absurd (let no : false ≡ true = sym up ∙ is in cc))
          (t.node ∙ ap (λ (x : Node Body S). node_serve (server_now to.state) x) node_here ∙ sym (ap (λ (c : Bool). if c then node_cleared u.clear looked_as else node_serve (server_now to.state) looked_as) up))
