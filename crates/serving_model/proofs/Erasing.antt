-- What a slave does doesn't depend on what is in its mails, but for its server.
use Rattle.std.proofs.Common.{◌≡◌, ℕ, ◌==◌, ◌&&◌, Bool, true, false, is_none, is_some, Option, None, Some, List, [], ◌∷◌, ◌++◌, map, drop, refl, sym, ap, ap₂, ◌∙◌, if◌then◌else◌}
use Rattle.state_model.specs.of_exchange_model.Exchange.{Exchange}
use Rattle.state_model.specs.of_link_model.Mails.{LinkMail, is_repeat, first_of, differs}
use Rattle.state_model.specs.of_link_model.Slave.{OutSide, InSide, Node, noticed, repeated, request_answered, looked, mail_taken, served, offers, mail_offered, is_free, node_take, node_takes, node_offer, node_serve, all_taken, all_given}
use Rattle.state_model.specs.of_link_model.Link.{written}
use Rattle.state_model.specs.of_link_model.Frames.{Ask, Gram, node_meets, gram_meets, write_done, read_done}
use Rattle.state_model.specs.of_segment_model.Slaves.{Serving, serving, first_waiting, Access, Found, Slave, Datagram, is_meant, registers_met, counter_met, found_met, address_behind, slave_meets, datagram_meets, slave_after, frame_after}
use Rattle.serving_model.specs.Erasing.{mail_as, box_as, out_as, in_as, serving_as, node_as, slave_as, ask_as, gram_as, datagram_as, all_as}

module _ {N M W V : Type 0} (f : N → M) (h : W → V) where
  written-as : (s : OutSide N) (box : Option (LinkMail N)) (m : LinkMail N) → out_as f (written s box m) ≡ written (out_as f s) (box_as f box) (mail_as f m)
  written-as s None m = refl
  written-as s (Some stands) m = refl

  node_meets-as : (n : Node N (Serving W N)) (a : Ask N) → node_as f h (node_meets n a) ≡ node_meets (node_as f h n) (ask_as f a)
  node_meets-as n (Ask.WriteMail m) = ap (λ o. record { out = o; inn = in_as f n.inn; server = serving_as f h n.server }) (written-as n.out n.out.box m)
  node_meets-as n Ask.ReadMail = refl
  node_meets-as n (Ask.WriteRequest bit) = refl
  node_meets-as n Ask.ReadAcknowledge = refl
  node_meets-as n Ask.Other = refl

  gram_meets-as : (n : Node N (Serving W N)) (a : Ask N) (g : Gram N) → gram_as f (gram_meets n a g) ≡ gram_meets (node_as f h n) (ask_as f a) (gram_as f g)
  gram_meets-as n (Ask.WriteMail m) g = go n.out.box
    where
      go : (box : Option (LinkMail N)) → gram_as f (write_done g box) ≡ write_done (gram_as f g) (box_as f box)
      go None = refl
      go (Some stands) = refl
  gram_meets-as n Ask.ReadMail g = go n.inn.box
    where
      go : (box : Option (LinkMail N)) → gram_as f (read_done g box) ≡ read_done (gram_as f g) (box_as f box)
      go None = refl
      go (Some stands) = refl
  gram_meets-as n (Ask.WriteRequest bit) g = refl
  gram_meets-as n Ask.ReadAcknowledge g = refl
  gram_meets-as n Ask.Other g = refl

  full-as : (box : Option (LinkMail N)) → is_some (box_as f box) ≡ is_some box
  full-as None = refl
  full-as (Some m) = refl

  found-as : (s : Slave W N) (old : Option Found) (a : Access) → found_met s old a ≡ found_met (slave_as f h s) old a
  found-as s old (Access.SetStation station) = refl
  found-as s old (Access.SetFirst right) = refl
  found-as s old (Access.SetSecond right) = refl
  found-as s old (Access.SetControl target acknowledge) = refl
  found-as s old Access.ReadState = refl
  found-as s old Access.ReadFull = ap (λ b. Some (Found.Full b)) (sym (full-as s.node.out.box))
  found-as s old Access.Elsewhere = refl

  slave_meets-as : (station : ℕ) (s : Slave W N) (d : Datagram N) → slave_as f h (slave_meets station s d) ≡ slave_meets station (slave_as f h s) (datagram_as f d)
  slave_meets-as station s d = ap (λ n. record { node = n; registers = if is_meant s.registers d.address then registers_met s.registers d.access else s.registers }) (go (d.gram.station == station))
    where
      go : (b : Bool) → node_as f h (if b then node_meets s.node d.gram.ask else s.node) ≡ (if b then node_meets (node_as f h s.node) (ask_as f d.gram.ask) else node_as f h s.node)
      go true = node_meets-as s.node d.gram.ask
      go false = refl

  datagram_meets-as : (station : ℕ) (s : Slave W N) (d : Datagram N) → datagram_as f (datagram_meets station s d) ≡ datagram_meets station (slave_as f h s) (datagram_as f d)
  datagram_meets-as station s d =
      ap₂ (λ (g : Gram M) (l : Option Found). record { gram = g; address = address_behind d.address; access = d.access; counter = if is_meant s.registers d.address then counter_met d.counter d.access else d.counter; found = l })
      (go (d.gram.station == station)) (ap (λ l. if is_meant s.registers d.address then l else d.found) (found-as s d.found d.access))
    where
      go : (b : Bool) → gram_as f (if b then gram_meets s.node d.gram.ask d.gram else d.gram) ≡ (if b then gram_meets (node_as f h s.node) (ask_as f d.gram.ask) (gram_as f d.gram) else gram_as f d.gram)
      go true = gram_meets-as s.node d.gram.ask d.gram
      go false = refl

  -- A SLAVE BEHIND A FRAME, AND A FRAME BEHIND A SLAVE
  pub slave_after-as : (station : ℕ) (s : Slave W N) (ds : List (Datagram N)) → slave_as f h (slave_after station s ds) ≡ slave_after station (slave_as f h s) (all_as f ds)
  slave_after-as station s [] = refl
  slave_after-as station s (d ∷ ds) = slave_after-as station (slave_meets station s d) ds ∙ ap (λ t. slave_after station t (all_as f ds)) (slave_meets-as station s d)

  pub frame_after-as : (station : ℕ) (s : Slave W N) (ds : List (Datagram N)) → all_as f (frame_after station s ds) ≡ frame_after station (slave_as f h s) (all_as f ds)
  frame_after-as station s [] = refl
  frame_after-as station s (d ∷ ds) =
      ap₂ (λ (e : Datagram M) (l : List (Datagram M)). e ∷ l) (datagram_meets-as station s d)
      (frame_after-as station (slave_meets station s d) ds ∙ ap (λ t. frame_after station t (all_as f ds)) (slave_meets-as station s d))

  -- THE PROCESSOR LOOKS
  noticed-as : (s : InSide N) (box offered : Option (LinkMail N)) → in_as f (noticed s box offered) ≡ noticed (in_as f s) (box_as f box) (box_as f offered)
  noticed-as s (Some stands) None = refl
  noticed-as s (Some stands) (Some m) = refl
  noticed-as s None None = refl
  noticed-as s None (Some m) = ap (λ l. record (in_as f s) { offered = None; again = false; last_read = l }) (go s.again)
    where
      go : (b : Bool) → box_as f (if b then s.last_read else Some m) ≡ (if b then box_as f s.last_read else Some (mail_as f m))
      go true = refl
      go false = refl

  first-as : (a b : Option (LinkMail N)) → box_as f (first_of a b) ≡ first_of (box_as f a) (box_as f b)
  first-as None b = refl
  first-as (Some m) b = refl

  repeated-as : (s : InSide N) (last : Option (LinkMail N)) → in_as f (repeated s last) ≡ repeated (in_as f s) (box_as f last)
  repeated-as s None = refl
  repeated-as s (Some m) = go s.again
    where
      go : (b : Bool) → in_as f (if b then s else record s { box = Some m; offered = Some m; again = true; withdrawn = first_of s.offered s.withdrawn })
          ≡ (if b then in_as f s else record (in_as f s) { box = Some (mail_as f m); offered = Some (mail_as f m); again = true; withdrawn = first_of (box_as f s.offered) (box_as f s.withdrawn) })
      go true = refl
      go false = ap (λ w. record (in_as f s) { box = Some (mail_as f m); offered = Some (mail_as f m); again = true; withdrawn = w }) (first-as s.offered s.withdrawn)

  answered-as : (s : InSide N) → in_as f (request_answered s) ≡ request_answered (in_as f s)
  answered-as s = go (differs s.request s.acknowledge)
    where
      go : (b : Bool) → in_as f (if b then (let t = repeated s s.last_read in record t { acknowledge = s.request }) else s)
          ≡ (if b then (let t = repeated (in_as f s) (box_as f s.last_read) in record t { acknowledge = s.request }) else in_as f s)
      go true = ap (λ (t : InSide M). record t { acknowledge = s.request }) (repeated-as s s.last_read)
      go false = refl

  pub looked-as : (s : InSide N) → in_as f (looked s) ≡ looked (in_as f s)
  looked-as s = answered-as (noticed s s.box s.offered) ∙ ap request_answered (noticed-as s s.box s.offered)

  waits-as : (ms : List N) → is_none (first_waiting (map f ms)) ≡ is_none (first_waiting ms)
  waits-as [] = refl
  waits-as (m ∷ ms) = refl

  none-as : (box : Option (LinkMail N)) → is_none (box_as f box) ≡ is_none box
  none-as None = refl
  none-as (Some m) = refl

  drop-as : (ms : List N) → map f (drop 1 ms) ≡ drop 1 (map f ms)
  drop-as [] = refl
  drop-as (m ∷ ms) = refl

  module _ {B A Q P R T : Type 0} (y : Exchange W B N Q R) (x : Exchange V A M P T) where
    free-as : (n : Node N (Serving W N)) → is_free (serving y) n ≡ is_free (serving x) (node_as f h n)
    free-as n = ap₂ (λ (a b : Bool). (a && b) && is_none (first_waiting n.server.waiting)) (sym (none-as n.inn.box)) (sym (none-as n.inn.withdrawn))
        ∙ ap (λ c. (is_none (box_as f n.inn.box) && is_none (box_as f n.inn.withdrawn)) && c) (sym (waits-as n.server.waiting))

    served-as : (s : OutSide N) (box : Option (LinkMail N)) (free : Bool) → out_as f (served s box free) ≡ served (out_as f s) (box_as f box) free
    served-as s None free = refl
    served-as s (Some m) free = go (is_repeat s.last_taken m) free
      where
        go : (b c : Bool) → out_as f (if b then record s { box = None } else if c then record { box = None; last_taken = m.counter } else s)
            ≡ (if b then record (out_as f s) { box = None } else if c then record { box = None; last_taken = m.counter } else out_as f s)
        go true c = refl
        go false true = refl
        go false false = refl

    taken-as : (s : OutSide N) (box : Option (LinkMail N)) (free : Bool) → map f (mail_taken s box free) ≡ mail_taken (out_as f s) (box_as f box) free
    taken-as s None free = refl
    taken-as s (Some m) free = go (is_repeat s.last_taken m) free
      where
        go : (b c : Bool) → map f (if b then [] else if c then m.body ∷ [] else []) ≡ (if b then [] else if c then f m.body ∷ [] else [])
        go true c = refl
        go false true = refl
        go false false = refl

    map_append : (a b : List N) → map f (a ++ b) ≡ map f a ++ map f b
    map_append [] b = refl
    map_append (m ∷ a) b = ap (λ l. f m ∷ l) (map_append a b)

    one_at_most : (s : OutSide N) (box : Option (LinkMail N)) (free : Bool) → (P : List N → Type 0) → P [] → ((m : N) → mail_taken s box free ≡ m ∷ [] → P (m ∷ [])) → P (mail_taken s box free)
    one_at_most s None free P none one = none
    one_at_most s (Some m) free P none one = go (is_repeat s.last_taken m) free (λ e. one m.body e)
      where
        go : (b c : Bool) → ((if b then [] else if c then m.body ∷ [] else []) ≡ m.body ∷ [] → P (m.body ∷ [])) → P (if b then [] else if c then m.body ∷ [] else [])
        go true c one = none
        go false true one = one refl
        go false false one = none

    server-as : (s : Serving W N) (out : OutSide N) (box : Option (LinkMail N)) (free : Bool) →
        ((m : N) → mail_taken out box free ≡ m ∷ [] → (h (y.serve s.server m).0 ≡ (x.serve (h s.server) (f m)).0) × (map f (y.serve s.server m).1 ≡ (x.serve (h s.server) (f m)).1)) →
        serving_as f h (all_taken (serving y) s (mail_taken out box free)) ≡ all_taken (serving x) (serving_as f h s) (map f (mail_taken out box free))
    server-as s out box free agree = one_at_most out box free (λ ms. serving_as f h (all_taken (serving y) s ms) ≡ all_taken (serving x) (serving_as f h s) (map f ms)) refl
        (λ m e. ap₂ (λ (v : V) (l : List M). record { server = v; waiting = l }) (agree m e).0 (map_append s.waiting (y.serve s.server m).1 ∙ ap (λ l. map f s.waiting ++ l) (agree m e).1))

    pub take-as : (n : Node N (Serving W N)) →
        ((m : N) → node_takes (serving y) n ≡ m ∷ [] → (h (y.serve n.server.server m).0 ≡ (x.serve (h n.server.server) (f m)).0) × (map f (y.serve n.server.server m).1 ≡ (x.serve (h n.server.server) (f m)).1)) →
        node_as f h (node_take (serving y) n) ≡ node_take (serving x) (node_as f h n)
    take-as n agree =
        ap₂ (λ (o : OutSide M) (v : Serving V M). record { out = o; inn = in_as f n.inn; server = v })
        (served-as n.out n.out.box (is_free (serving y) n) ∙ ap (served (out_as f n.out) (box_as f n.out.box)) (free-as n))
        (server-as n.server n.out n.out.box (is_free (serving y) n) agree
        ∙ ap (all_taken (serving x) (serving_as f h n.server)) (taken-as n.out n.out.box (is_free (serving y) n) ∙ ap (mail_taken (out_as f n.out) (box_as f n.out.box)) (free-as n)))

    offers-as : (s : InSide N) (box withdrawn : Option (LinkMail N)) (ms : List N) → in_as f (offers s box withdrawn (first_waiting ms)) ≡ offers (in_as f s) (box_as f box) (box_as f withdrawn) (first_waiting (map f ms))
    offers-as s (Some stands) withdrawn ms = refl
    offers-as s None (Some m) ms = refl
    offers-as s None None [] = refl
    offers-as s None None (m ∷ ms) = refl

    given-as : (v : Serving W N) (box withdrawn : Option (LinkMail N)) (ms : List N) →
        serving_as f h (all_given (serving y) v (mail_offered box withdrawn (first_waiting ms))) ≡ all_given (serving x) (serving_as f h v) (mail_offered (box_as f box) (box_as f withdrawn) (first_waiting (map f ms)))
    given-as v (Some stands) withdrawn ms = refl
    given-as v None (Some m) ms = refl
    given-as v None None [] = refl
    given-as v None None (m ∷ ms) = ap (λ l. record { server = h v.server; waiting = l }) (drop-as v.waiting)

    pub offer-as : (n : Node N (Serving W N)) → node_as f h (node_offer (serving y) n) ≡ node_offer (serving x) (node_as f h n)
    offer-as n = ap₂ (λ (i : InSide M) (v : Serving V M). record { out = out_as f n.out; inn = i; server = v })
        (offers-as n.inn n.inn.box n.inn.withdrawn n.server.waiting) (given-as n.server n.inn.box n.inn.withdrawn n.server.waiting)

    -- THE PROCESSOR SERVES, where the servers agree on the mail that it takes
    pub serve-as : (n : Node N (Serving W N)) →
        ((m : N) → node_takes (serving y) n ≡ m ∷ [] → (h (y.serve n.server.server m).0 ≡ (x.serve (h n.server.server) (f m)).0) × (map f (y.serve n.server.server m).1 ≡ (x.serve (h n.server.server) (f m)).1)) →
        node_as f h (node_serve (serving y) n) ≡ node_serve (serving x) (node_as f h n)
    serve-as n agree = offer-as (node_take (serving y) n) ∙ ap (node_offer (serving x)) (take-as n agree)
