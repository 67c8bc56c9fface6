-- THE BOX, octet by octet, is the model's: steps 1 and 2, and 4 and 5.
use Rattle.std.proofs.Common.{◌≡◌, ℕ, ◌+◌, ◌&&◌, Bool, true, false, not, length, Ok, is_none, refl, ap, sym, ◌∙◌, subst, arith}
use Rattle.std.specs.Prelude.{Option, Some, None, option_map, IsSome, if◌then◌else◌, replicate, ◌-◌}
use Rattle.std.specs.Option.{ForSome}
use Rattle.frames_seen.specs.of_mailbox_mail.declared.mail.Mail.{Mail}
use Rattle.frames_seen.specs.of_mailbox_mail.Mail.{mail_read}
use Rattle.frames_seen.specs.of_mailbox_mail.Area.{mail_area}
use Rattle.frames_seen.proofs.of_mailbox_mail.Laws.{read-only}
use Rattle.frames_seen.specs.of_esc_registers.declared.registers.Registers as Esc
use Rattle.frames_seen.specs.of_esc_registers.Manager.{same, is_repeat_asked}
use Rattle.frames_seen.specs.of_link_model.Counters.{next_counter, repeats}
use Rattle.frames_seen.specs.of_link_model.Mails.{LinkMail, differs, first_of}
use Rattle.frames_seen.specs.of_link_model.Slave as Model
use Rattle.frames_seen.specs.of_link_model.Slave.{InSide, OutSide, Node, Server}
use Rattle.frames_seen.specs.of_link_mails.Body.{Body, link_mail, link_read, uncounted, counted_as}
use Rattle.frames_seen.specs.of_mailbox_slave.Kept.{Kept, offered}
use Rattle.frames_seen.specs.of_mailbox_slave.Registers.{in_box, out_box, in_len, request_of, acknowledge_of}
use Rattle.frames_seen.specs.of_mailbox_slave.Node.{node_of, in_side, out_side, server_of}
use Rattle.frames_seen.specs.of_mailbox_slave.Exact as Exact
use Rattle.frames_seen.specs.of_mailbox_slave.Exact.{Boxes, with_mail, with_acknowledge, with_out_free, kept_noticed, last_repeated, request_answered, boxes_looked, out_mail, is_free, mail_served, next_offered, mail_offered}
use Rattle.slave_lives.specs.Nodes.{IsPlaced, IsKept, GivesPlaced}
use Rattle.slave_lives.specs.Steps.{Running}

-- a mail that is there, in the words of std
some_is : (P : Mail → Type 0) (m : Mail) → P m → ForSome (Some m) P
some_is P m p = λ x is. let same : m ≡ x = cc in subst P same p

none_is : (P : Mail → Type 0) → ForSome None P
none_is P = λ x is. absurd (cc)

read_placed : (len : ℕ) (m : Mail) → IsPlaced len m → mail_read (mail_area len m) ≡ Ok m
read_placed len m p = read-only (mail_area len m) m (record {
  channel = 0;
  top = 0;
  rest = replicate (len - (6 + length m.body.items)) 0;
  octets = refl;
  one_bit = omega arith;
  addressed = p.addressed;
  counted = p.counted;
  fits = p.short;
})

-- a mail that was put there stands there
in_with : (r : Esc.Registers) (m : Mail) → IsPlaced (in_len r) m → in_box (with_mail r m) ≡ Some (link_mail m)
in_with r m p = ap (λ (x : Body). Some (link_read x)) (read_placed (in_len r) m p)

abbrev side : Option (LinkMail Body) → Bool → Bool → Kept → InSide Body
side box request acknowledge k = record {
  box = box;
  offered = option_map link_mail (offered k);
  again = k.again;
  last_read = option_map link_mail k.last_read;
  withdrawn = option_map link_mail k.withdrawn;
  newest = k.newest;
  request = request;
  acknowledge = acknowledge;
}

abbrev kept : ℕ → ℕ → Bool → Option Mail → Option Mail → Option Mail → Kept
kept last_taken newest again last fresh withdrawn = record { last_taken = last_taken; newest = newest; again = again; last_read = last; fresh = fresh; withdrawn = withdrawn }

-- step 1
noticed_by : (x : LinkMail Body) (full request acknowledge : Bool) (last_taken newest : ℕ) (again : Bool) (last fresh withdrawn : Option Mail) → (again ≡ true → IsSome last × (fresh ≡ None)) →
    (let k = kept last_taken newest again last fresh withdrawn in let s = side (if full then Some x else None) request acknowledge k in
    side (if full then Some x else None) request acknowledge (kept_noticed k full) ≡ Model.noticed s s.box s.offered)
noticed_by x true request acknowledge last_taken newest again last fresh withdrawn sound = refl
noticed_by x false request acknowledge last_taken newest true None fresh withdrawn sound = absurd (let some : false ≡ true = (sound refl).0 in cc)
noticed_by x false request acknowledge last_taken newest true (Some m) (Some n) withdrawn sound = absurd (let none = (sound refl).1 in cc)
noticed_by x false request acknowledge last_taken newest true (Some m) None withdrawn sound = refl
noticed_by x false request acknowledge last_taken newest false last (Some n) withdrawn sound = refl
noticed_by x false request acknowledge last_taken newest false last None withdrawn sound = refl

noticed_side : (k : Kept) (r : Esc.Registers) → (k.again ≡ true → IsSome k.last_read × (k.fresh ≡ None)) →
    in_side (kept_noticed k r.in_manager.full) r ≡ Model.noticed (in_side k r) (in_side k r).box (in_side k r).offered
noticed_side k r sound = noticed_by (link_read (mail_read r.in_manager.area)) r.in_manager.full (request_of r) (acknowledge_of r) k.last_taken k.newest k.again k.last_read k.fresh k.withdrawn sound

-- the last mail read is offered again
record Repeats (k : Kept) (r : Esc.Registers) (b : Boxes) : Type 0 where
  inn : in_side b.kept b.registers ≡ Model.repeated (in_side k r) (in_side k r).last_read
  asks : request_of b.registers ≡ request_of r

repeats_by : (r : Esc.Registers) (last_taken newest : ℕ) (again : Bool) (last fresh withdrawn : Option Mail) → ForSome last (IsPlaced (in_len r)) →
    (let k = kept last_taken newest again last fresh withdrawn in Repeats k r (last_repeated k r last))
repeats_by r last_taken newest again None fresh withdrawn placed = record { inn = refl; asks = refl }
repeats_by r last_taken newest true (Some m) fresh withdrawn placed = record { inn = refl; asks = refl }
repeats_by r last_taken newest false (Some m) (Some n) withdrawn placed = record {
  inn = ap (λ (box : Option (LinkMail Body)). side box (request_of r) (acknowledge_of r) (kept last_taken newest true (Some m) None (Some n))) (in_with r m (placed m refl));
  asks = refl;
}
repeats_by r last_taken newest false (Some m) None withdrawn placed = record {
  inn = ap (λ (box : Option (LinkMail Body)). side box (request_of r) (acknowledge_of r) (kept last_taken newest true (Some m) None withdrawn)) (in_with r m (placed m refl));
  asks = refl;
}

asked_is : (a b : Bool) → not (same a b) ≡ differs a b
asked_is true true = refl
asked_is true false = refl
asked_is false true = refl
asked_is false false = refl

-- step 2
pub answered_side : (k : Kept) (r : Esc.Registers) → ForSome k.last_read (IsPlaced (in_len r)) → (let b = request_answered k r in in_side b.kept b.registers ≡ Model.request_answered (in_side k r))
answered_side k r placed = go (is_repeat_asked r.in_manager) (differs (request_of r) (acknowledge_of r)) (asked_is (request_of r) (acknowledge_of r))
  where
    s : InSide Body
    s = in_side k r

    e : Repeats k r (last_repeated k r k.last_read)
    e = repeats_by r k.last_taken k.newest k.again k.last_read k.fresh k.withdrawn placed

    once : (c : Bool) →
        (let b : Boxes = if c then (let b = last_repeated k r k.last_read in record b { registers = with_acknowledge b.registers }) else record { kept = k; registers = r } in in_side b.kept b.registers)
        ≡ (if c then (let t = Model.repeated (in_side k r) (in_side k r).last_read in record t { acknowledge = (in_side k r).request }) else in_side k r)
    once true = λ i. record (e.inn i) { acknowledge = e.asks i }
    once false = refl

    go : (c d : Bool) → c ≡ d →
        (let b : Boxes = if c then (let b = last_repeated k r k.last_read in record b { registers = with_acknowledge b.registers }) else record { kept = k; registers = r } in in_side b.kept b.registers)
        ≡ (if d then (let t = Model.repeated (in_side k r) (in_side k r).last_read in record t { acknowledge = (in_side k r).request }) else in_side k r)
    go c d same_ = once c ∙ ap (λ (d : Bool). if d then (let t = Model.repeated (in_side k r) (in_side k r).last_read in record t { acknowledge = (in_side k r).request }) else in_side k r) same_

-- neither touches mailbox 0
answered_out : (k : Kept) (r : Esc.Registers) → (let b = request_answered k r in out_side b.kept b.registers ≡ out_side k r)
answered_out k r = go (is_repeat_asked r.in_manager)
  where
    once : (last : Option Mail) (again : Bool) → (let b = last_repeated (record k { again = again }) r last in out_side b.kept b.registers ≡ out_side k r)
    once None again = refl
    once (Some m) true = refl
    once (Some m) false = refl

    go : (c : Bool) → (let b : Boxes = if c then (let b = last_repeated k r k.last_read in record b { registers = with_acknowledge b.registers }) else record { kept = k; registers = r } in out_side b.kept b.registers ≡ out_side k r)
    go true = once k.last_read k.again
    go false = refl

noticed_last : (k : Kept) (full : Bool) → (kept_noticed k full).last_taken ≡ k.last_taken
noticed_last k full = go full k.fresh
  where
    go : (b : Bool) (f : Option Mail) → (kept_noticed (record k { fresh = f }) b).last_taken ≡ k.last_taken
    go true f = refl
    go false (Some m) = refl
    go false None = refl

-- what a box keeps fits as before
pub noticed_kept : (len : ℕ) (k : Kept) (full : Bool) → IsKept len k → IsKept len (kept_noticed k full)
noticed_kept len k full keeps = go full k.fresh k.again keeps.fresh keeps.again
  where
    go : (b : Bool) (f : Option Mail) (again : Bool) → ForSome f (IsPlaced len) → (again ≡ true → IsSome k.last_read × (f ≡ None)) → IsKept len (kept_noticed (record k { fresh = f; again = again }) b)
    go true f again placed sound = record { last_read = keeps.last_read; fresh = placed; withdrawn = keeps.withdrawn; again = sound }
    go false (Some m) true placed sound = absurd (let none = (sound refl).1 in cc)
    go false (Some m) false placed sound = record { last_read = placed; fresh = none_is (IsPlaced len); withdrawn = keeps.withdrawn; again = λ is. absurd (cc) }
    go false None again placed sound = record { last_read = keeps.last_read; fresh = none_is (IsPlaced len); withdrawn = keeps.withdrawn; again = λ is. absurd (cc) }

pub answered_kept : (len : ℕ) (k : Kept) (r : Esc.Registers) → IsKept len k → IsKept len (request_answered k r).kept
answered_kept len k r keeps = go (is_repeat_asked r.in_manager)
  where
    first : (f w : Option Mail) → ForSome f (IsPlaced len) → ForSome w (IsPlaced len) → ForSome (first_of f w) (IsPlaced len)
    first None w a b = b
    first (Some m) w a b = a

    once : (last : Option Mail) (again : Bool) → ForSome last (IsPlaced len) → (again ≡ true → IsSome last × (k.fresh ≡ None)) → IsKept len (last_repeated (record k { last_read = last; again = again }) r last).kept
    once None again placed sound = record { last_read = none_is (IsPlaced len); fresh = keeps.fresh; withdrawn = keeps.withdrawn; again = sound }
    once (Some m) true placed sound = record { last_read = placed; fresh = keeps.fresh; withdrawn = keeps.withdrawn; again = sound }
    once (Some m) false placed sound = record { last_read = placed; fresh = none_is (IsPlaced len); withdrawn = first k.fresh k.withdrawn keeps.fresh keeps.withdrawn; again = λ is. (refl, refl) }

    go : (c : Bool) → IsKept len (let b : Boxes = if c then (let b = last_repeated k r k.last_read in record b { registers = with_acknowledge b.registers }) else record { kept = k; registers = r } in b).kept
    go true = once k.last_read k.again keeps.last_read keeps.again
    go false = keeps

-- STEPS 1 AND 2, and step 2 alone
pub looked_node : {S : Type 0} (k : Kept) (r : Esc.Registers) (s : S) → IsKept (in_len r) k → (let b = boxes_looked k r in node_of b.kept b.registers s ≡ Model.node_look (node_of k r s))
looked_node k r s keeps =
    let n = kept_noticed k r.in_manager.full in
    let inn = answered_side n r (noticed_kept (in_len r) k r.in_manager.full keeps).last_read ∙ ap Model.request_answered (noticed_side k r keeps.again) in
    let out : out_side (request_answered n r).kept (request_answered n r).registers ≡ out_side k r = answered_out n r ∙ ap (λ (l : ℕ). record { box = out_box r; last_taken = l }) (noticed_last k r.in_manager.full) in
    λ i. record { out = out i; inn = inn i; server = s }

pub answered_node : {S : Type 0} (k : Kept) (r : Esc.Registers) (s : S) → IsKept (in_len r) k →
    (let b = request_answered k r in node_of b.kept b.registers s ≡ record (node_of k r s) { inn = Model.request_answered (in_side k r) })
answered_node k r s keeps =
    let inn = answered_side k r keeps.last_read in
    let out = answered_out k r in
    λ i. record { out = out i; inn = inn i; server = s }

-- the slave is free alike
free_is : {X : Type 0} (g : Mail → X) (full : Bool) (x : LinkMail Body) (w n : Option Mail) →
    (not full && (is_none w && is_none n)) ≡ ((is_none (if full then Some x else None) && is_none (option_map link_mail w)) && is_none (option_map g n))
free_is g true x w n = refl
free_is g false x (Some m) n = refl
free_is g false x None (Some m) = refl
free_is g false x None None = refl

module _ {S : Type 0} (u : Running S) (al : ℕ) where
  abbrev server : Server Body S
  server = server_of u.take u.next u.rest al

  abbrev pub taken_by : Kept → Esc.Registers → S → Bool → Bool → Bool → Exact.Slave S
  taken_by k r s full again free =
      if not full then record { kept = k; registers = r; server = s }
      else if again then record { kept = k; registers = with_out_free r; server = s }
      else if free
      then record { kept = record k { last_taken = (out_mail r).counter }; registers = with_out_free r; server = u.take s (out_mail r).body al }
      else record { kept = k; registers = r; server = s }

  abbrev served_by : OutSide Body → Bool → Bool → Bool → LinkMail Body → OutSide Body
  served_by o full again free m = if not full then o else if again then record o { box = None } else if free then record { box = None; last_taken = m.counter } else o

  -- mailbox 0 by its tests
  take_by : (k : Kept) (r : Esc.Registers) (s : S) (full again free : Bool) → r.in_manager ≡ r.in_manager → (let t = taken_by k r s full again free in
      node_of t.kept t.registers t.server ≡ record { out = served_by (out_side k r) full again free (out_mail r); inn = in_side k r; server = if not full then s else if again then s else if free then u.take s (out_mail r).body al else s })
  take_by k r s false again free e = refl
  take_by k r s true true free e = refl
  take_by k r s true false true e = refl
  take_by k r s true false false e = refl

  model_by : (k : Kept) (r : Esc.Registers) (s : S) (full again free : Bool) → r.out_manager.full ≡ full → repeats k.last_taken (out_mail r).counter ≡ again → Model.is_free server (node_of k r s) ≡ free →
      record { out = served_by (out_side k r) full again free (out_mail r); inn = in_side k r; server = if not full then s else if again then s else if free then u.take s (out_mail r).body al else s } ≡ Model.node_take server (node_of k r s)
  model_by k r s false again free f a e = rw f refl
  model_by k r s true true free f a e = rw (f, a) refl
  model_by k r s true false true f a e = rw (f, a, e) refl
  model_by k r s true false false f a e = rw (f, a, e) refl

  -- STEP 4
  pub taken_node : (k : Kept) (r : Esc.Registers) (s : S) → (let t = mail_served u.take u.next al k r s in node_of t.kept t.registers t.server ≡ Model.node_take server (node_of k r s))
  taken_node k r s =
      let free = free_is (λ (m : Mail). let b : Body = Ok (uncounted m) in b) r.in_manager.full (link_read (mail_read r.in_manager.area)) k.withdrawn (u.next s) in
      take_by k r s r.out_manager.full (repeats k.last_taken (out_mail r).counter) (is_free k r (u.next s)) refl
      ∙ model_by k r s r.out_manager.full (repeats k.last_taken (out_mail r).counter) (is_free k r (u.next s)) refl refl (sym free)

  -- a mail for mailbox 1, by what is withdrawn and what waits
  abbrev offered_node : Node Body S → Option (LinkMail Body) → Option Mail → Node Body S
  offered_node n w x = record n {
    inn = Model.offers n.inn None w (option_map (λ m. Ok (uncounted m)) x);
    server = Model.all_given server n.server (Model.mail_offered None w (option_map (λ m. Ok (uncounted m)) x));
  }

  recount : (len c : ℕ) (m : Mail) → IsPlaced len m → IsPlaced len (counted_as (next_counter c) m)
  recount len c m p = record { counted = omega arith; addressed = p.addressed; short = p.short; fits = p.fits }

  offer_by : (last_taken newest : ℕ) (again : Bool) (last fresh w : Option Mail) (r : Esc.Registers) (s : S) (x : Option Mail) → ForSome w (IsPlaced (in_len r)) → ForSome x (IsPlaced (in_len r)) →
      (let k = kept last_taken newest again last fresh w in let t = next_offered u.rest k r s w x in
      node_of t.kept t.registers t.server ≡ offered_node (node_of k r s) (option_map link_mail w) x)
  offer_by last_taken newest again last fresh (Some m) r s x placed next =
      ap (λ (box : Option (LinkMail Body)). record { out = record { box = out_box r; last_taken = last_taken }; inn = side box (request_of r) (acknowledge_of r) (kept last_taken newest false last (Some m) None); server = s }) (in_with r m (placed m refl))
  offer_by last_taken newest again last fresh None r s (Some m) placed next =
      let n = counted_as (next_counter newest) m in
      ap (λ (box : Option (LinkMail Body)). record { out = record { box = out_box r; last_taken = last_taken }; inn = side box (request_of r) (acknowledge_of r) (kept last_taken (next_counter newest) false last (Some n) None); server = u.rest s })
      (in_with r n (recount (in_len r) newest m (next m refl)))
  offer_by last_taken newest again last fresh None r s None placed next = refl

  -- STEP 5
  pub offered_is : (k : Kept) (r : Esc.Registers) (s : S) → IsKept (in_len r) k → GivesPlaced u (in_len r) s → (let t = mail_offered u.next u.rest k r s in node_of t.kept t.registers t.server ≡ Model.node_offer server (node_of k r s))
  offered_is k r s keeps gives = go r.in_manager.full refl
    where
      go : (full : Bool) → r.in_manager.full ≡ full → (let t = if full then record { kept = k; registers = r; server = s } else next_offered u.rest k r s k.withdrawn (u.next s) in
          node_of t.kept t.registers t.server ≡ Model.node_offer server (node_of k r s))
      go true e = rw e refl
      go false e = offer_by k.last_taken k.newest k.again k.last_read k.fresh k.withdrawn r s (u.next s) keeps.withdrawn gives ∙ empty
        where
          empty : offered_node (node_of k r s) (option_map link_mail k.withdrawn) (u.next s) ≡ Model.node_offer server (node_of k r s)
          empty = rw e refl

  pub offered_kept : (k : Kept) (r : Esc.Registers) (s : S) → IsKept (in_len r) k → GivesPlaced u (in_len r) s → IsKept (in_len r) (mail_offered u.next u.rest k r s).kept
  offered_kept k r s keeps gives = go r.in_manager.full
    where
      once : (w x : Option Mail) → ForSome w (IsPlaced (in_len r)) → ForSome x (IsPlaced (in_len r)) → IsKept (in_len r) (next_offered u.rest (record k { withdrawn = w }) r s w x).kept
      once (Some m) x placed next = record { last_read = keeps.last_read; fresh = placed; withdrawn = none_is (IsPlaced (in_len r)); again = λ is. absurd (cc) }
      once None (Some m) placed next = record { last_read = keeps.last_read; fresh = some_is (IsPlaced (in_len r)) (counted_as (next_counter k.newest) m) (recount (in_len r) k.newest m (next m refl)); withdrawn = none_is (IsPlaced (in_len r)); again = λ is. absurd (cc) }
      once None None placed next = record { last_read = keeps.last_read; fresh = keeps.fresh; withdrawn = none_is (IsPlaced (in_len r)); again = keeps.again }

      go : (full : Bool) → IsKept (in_len r) (if full then record { kept = k; registers = r; server = s } else next_offered u.rest k r s k.withdrawn (u.next s)).kept
      go true = keeps
      go false = once k.withdrawn (u.next s) keeps.withdrawn gives
