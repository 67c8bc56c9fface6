-- A mail that is always answered, on its way: it isn't taken, or its first reply isn't accepted.
use Rattle.std.proofs.Common.{◌≡◌, ◌⊎◌, inl, inr, suc, ◌≤◌, ◌&&◌, Bool, true, false, is_none, Option, Some, None, List, [], ◌∷◌, ◌++◌, length, refl, ap, sym, ◌∙◌, arith, append_assoc, append-nil, length-append, if◌then◌else◌}
use Rattle.slave_parts.specs.of_exchange_model.Exchange.{Exchange}
use Rattle.slave_parts.proofs.of_exchange_model.Lists.{append_cancel}
use Rattle.slave_parts.specs.of_link_model.Mails.{LinkMail, is_repeat}
use Rattle.slave_parts.specs.of_link_model.Slave.{OutSide, Node, mail_taken, mail_offered, all_taken, node_look, node_take, node_takes, node_offers, is_free}
use Rattle.slave_parts.specs.of_link_model.Agree.{Agrees}
use Rattle.slave_parts.proofs.of_link_model.Law.{taken_of_held, accepted_of_offered}
use Rattle.slave_parts.specs.of_segment_model.Slaves.{Serving, serving, first_waiting, Processor, state_told}
use Rattle.slave_parts.specs.of_segment_model.Ends.{Passing}
use Rattle.slave_parts.specs.of_segment_model.Seats.{Seat, link_of, seat_steps}
use Rattle.slave_parts.specs.of_serving_model.Tagged.{no_reply}

-- a list that begins another: the same length, or it has the next item
pub caught : {M : Type 0} (e : M → Bool) (h : M) → e h ≡ false → (accepted ms rest first more : List M) → (accepted ++ ms) ++ rest ≡ first ++ h ∷ more → length accepted ≤ length first →
    (length (accepted ++ ms) ≤ length first) ⊎ (no_reply e ms ≡ false)
caught e h reply [] [] rest first more same le = inl (omega arith)
caught e h reply [] (m ∷ ms) rest [] more same le = inr (let at : m ≡ h = cc in ap (λ k. if e k then no_reply e ms else false) at ∙ ap (λ b. if b then no_reply e ms else false) reply)
caught {M} e h reply [] (m ∷ ms) rest (f ∷ first) more same le = go (caught e h reply [] ms rest first more (let tail : ms ++ rest ≡ first ++ h ∷ more = cc in tail) (omega arith))
  where
    both : (b : Bool) → no_reply e ms ≡ false → (if b then no_reply e ms else false) ≡ false
    both true n = n
    both false n = refl

    go : (length ms ≤ length first) ⊎ (no_reply e ms ≡ false) → (suc (length ms) ≤ suc (length first)) ⊎ (no_reply e (m ∷ ms) ≡ false)
    go (inl l) = inl (omega (arith, l))
    go (inr n) = inr (both (e m) n)
caught e h reply (a ∷ accepted) ms rest [] more same le = absurd (omega (arith, le))
caught {M} e h reply (a ∷ accepted) ms rest (f ∷ first) more same le =
    elim (caught e h reply accepted ms rest first more (let tail : (accepted ++ ms) ++ rest ≡ first ++ h ∷ more = cc in tail) (omega (arith, le))) [
      | inl l ↦ inl (omega (arith, l))
      | inr n ↦ inr n
    ]

-- what a step takes: nothing, or one mail where the slave is free
few_takes : {M : Type 0} (s : OutSide M) (box : Option (LinkMail M)) (free : Bool) → (mail_taken s box free ≡ []) ⊎ ((b : M) × (mail_taken s box free ≡ b ∷ []) × (free ≡ true))
few_takes s None free = inl refl
few_takes {M} s (Some m) free = go (is_repeat s.last_taken m) free
  where
    go : (r f : Bool) → ((if r then [] else if f then m.body ∷ [] else []) ≡ []) ⊎ ((b : M) × ((if r then [] else if f then m.body ∷ [] else []) ≡ b ∷ []) × (f ≡ true))
    go true f = inl refl
    go false true = inr (m.body, refl, refl)
    go false false = inl refl

-- a free slave offers the first of what it is given
offers_first : {M : Type 0} (box withdrawn : Option (LinkMail M)) (ws gs : List M) (h : M) (rest : List M) → (is_none box && is_none withdrawn) && is_none (first_waiting ws) ≡ true → gs ≡ h ∷ rest →
    mail_offered box withdrawn (first_waiting (ws ++ gs)) ≡ h ∷ []
offers_first None None [] gs h rest free e = ap (λ l. mail_offered None None (first_waiting l)) e
offers_first None None (w ∷ ws) gs h rest free e = absurd (let bad : false ≡ true = free in cc)
offers_first None (Some m) ws gs h rest free e = absurd (let bad : false ≡ true = free in cc)
offers_first (Some m) withdrawn ws gs h rest free e = absurd (let bad : false ≡ true = free in cc)

module _ {V A M Q R : Type 0} (x : Exchange V A M Q R) where
  -- the mail was held last, and isn't taken
  abbrev pub IsLast : M → Seat V M Q R → Type 0
  IsLast m s = (pre : List M) × (s.held ≡ (s.taken ++ pre) ++ m ∷ [])

  -- or all held is taken, and a reply to it isn't accepted
  pub record IsTaken (s : Seat V M Q R) : Type 0 where
    pub taken : s.taken ≡ s.held
    pub first : List M
    pub reply : M
    pub rest : List M
    pub offered : s.offered ≡ first ++ reply ∷ rest
    pub replies : x.speech.emission reply ≡ false
    pub few : length s.accepted ≤ length first

  abbrev pub Awaits : M → Seat V M Q R → Type 0
  Awaits m s = IsLast m s ⊎ IsTaken s

  -- it is not known to be taken, or nothing before that reply is left to hear
  abbrev pub StageOf : Passing → M → List M → Seat V M Q R → Type 0
  StageOf Passing.Waiting m told s = ((told ≡ []) × (s.side.fresh ≡ false)) ⊎ ((told ≡ m ∷ []) × Awaits m s)
  StageOf Passing.Sent m told s = (told ≡ m ∷ []) × Awaits m s
  StageOf Passing.Boxed m told s = (told ≡ m ∷ []) × Awaits m s × (s.side.halves.out.holding ≡ None)
  StageOf Passing.Served m told s = (told ≡ m ∷ []) × ((t : IsTaken s) × (length t.first ≤ length s.accepted))
  StageOf Passing.Answered m told s = ⊥

  -- A STEP of the processor
  module _ (processor : Processor V) (s : Seat V M Q R) (agrees : Agrees (link_of s)) (behind : Agrees (link_of (seat_steps x processor s))) where
    abbrev t : Seat V M Q R
    t = seat_steps x processor s

    abbrev n : Node M (Serving V M)
    n = state_told processor (processor.carry s.slave.registers).state (node_look s.slave.node)

    abbrev takes : List M
    takes = node_takes (serving x) n

    abbrev offers : List M
    offers = node_offers (serving x) (node_take (serving x) n)

    in_order : (rest : List M) × (s.held ≡ (s.taken ++ takes) ++ rest)
    in_order = taken_of_held (link_of t) behind

    pub step_taken : (k : IsTaken s) → (j : IsTaken t) × (j.first ≡ k.first)
    step_taken k = go takes refl
      where
        go : (ts : List M) → takes ≡ ts → (j : IsTaken t) × (j.first ≡ k.first)
        go [] e = (
          record {
            taken = ap (λ l. s.taken ++ l) e ∙ append-nil s.taken ∙ k.taken;
            first = k.first;
            reply = k.reply;
            rest = k.rest ++ offers;
            offered = ap (λ l. l ++ offers) k.offered ∙ append_assoc k.first (k.reply ∷ k.rest) offers;
            replies = k.replies;
            few = k.few;
          },
          refl,
        )
        go (b ∷ bs) e = absurd (
            let o = in_order in
            let l1 = ap length o.1 in
            let l2 = length-append (s.taken ++ takes) o.0 in
            let l3 = length-append s.taken takes in
            let l4 = ap length e in
            let l5 = ap length k.taken in
            omega (arith, l1, l2, l3, l4, l5))

    pub step_awaits : (m : M) (first : V → M) (rest : V → List M) → ((v : V) → (x.serve v m).1 ≡ first v ∷ rest v) → ((v : V) → x.speech.emission (first v) ≡ false) → Awaits m s → Awaits m t
    step_awaits m first rest gives replies (inr k) = inr (step_taken k).0
    step_awaits m first rest gives replies (inl k) = go (few_takes n.out n.out.box (is_free (serving x) n))
      where
        go : (takes ≡ []) ⊎ ((b : M) × (takes ≡ b ∷ []) × (is_free (serving x) n ≡ true)) → Awaits m t
        go (inl e) = inl (k.0, k.1 ∙ ap (λ l. (l ++ k.0) ++ m ∷ []) (sym (ap (λ l. s.taken ++ l) e ∙ append-nil s.taken)))
        go (inr b) = by k.0 k.1
          where
            by : (pre : List M) → s.held ≡ (s.taken ++ pre) ++ m ∷ [] → Awaits m t
            by pre e =
                let o = in_order in
                let same : s.taken ++ (b.0 ∷ o.0) ≡ s.taken ++ (pre ++ m ∷ []) = sym (append_assoc s.taken (b.0 ∷ []) o.0) ∙ ap (λ l. (s.taken ++ l) ++ o.0) (sym b.1) ∙ sym o.1 ∙ e ∙ append_assoc s.taken pre (m ∷ []) in
                cut pre e (append_cancel s.taken (b.0 ∷ o.0) (pre ++ m ∷ []) same)
              where
                cut : (pre : List M) → s.held ≡ (s.taken ++ pre) ++ m ∷ [] → b.0 ∷ (in_order).0 ≡ pre ++ m ∷ [] → Awaits m t
                cut [] e f =
                    let at : b.0 ≡ m = cc in
                    let v = n.server.server in
                    let gift : offers ≡ first v ∷ [] =
                    ap (λ l. mail_offered n.inn.box n.inn.withdrawn (first_waiting (all_taken (serving x) n.server l).waiting)) (b.1 ∙ ap (λ c. c ∷ []) at)
                    ∙ offers_first n.inn.box n.inn.withdrawn n.server.waiting (x.serve v m).1 (first v) (rest v) b.2 (gives v) in
                    let order = accepted_of_offered (link_of s) agrees in
                    let long = ap length order.1 in
                    let parts = length-append s.accepted order.0 in
                    inr (record {
                      taken = ap (λ l. s.taken ++ l) (b.1 ∙ ap (λ c. c ∷ []) at) ∙ ap (λ l. l ++ m ∷ []) (sym (append-nil s.taken)) ∙ sym e;
                      first = s.offered;
                      reply = first v;
                      rest = [];
                      offered = ap (λ l. s.offered ++ l) gift;
                      replies = replies v;
                      few = omega (arith, long, parts);
                    })
                cut (c ∷ pre) e f =
                    let at : b.0 ≡ c = cc in
                    inl (pre, e ∙ ap (λ l. l ++ m ∷ []) (sym (append_assoc s.taken (c ∷ []) pre)) ∙ ap (λ l. ((s.taken ++ l) ++ pre) ++ m ∷ []) (sym (b.1 ∙ ap (λ d. d ∷ []) at)))
