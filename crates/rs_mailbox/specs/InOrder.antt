-- Of each pass, what was popped and then what the queue holds, as far as it is from this pass, is what the pass pushed, in its order. Pass 0 alone pops, and it makes the others.
use Rattle.std.specs.Prelude.{◌≡◌, ℕ, ◌+◌, ◌*◌, ◌^◌, ◌<◌, ◌≤◌, ◌==◌, Bool, true, false, All, List, [], ◌∷◌, ◌++◌, length, Option, Some, None}
use mathlib.Core.Option.{some}
use lib.ListN.{get_elem?}
use Rattle.rs_mailbox.specs.declared.trail.Trail.{Trail}

-- x before the list, where the test holds
abbrev pub kept : {A : Type 0} → Bool → A → List A → List A
kept true x xs = x ∷ xs
kept false x xs = xs

-- the elements of xs whose sender is p, where `senders` has the sender of each
abbrev pub of : {A : Type 0} → ℕ → List ℕ → List A → List A
of p [] xs = []
of p (s ∷ ss) [] = []
of p (s ∷ ss) (x ∷ xs) = kept (s == p) x (of p ss xs)

module _ {N M : Type 0} where
  -- the trail of the one who makes the queue
  abbrev pub beginning : Trail N M
  beginning = record { name = None; number = 0; made = 1; sent = []; got = [] }

  -- the trail after a message was sent
  abbrev pub sends : Trail N M → M → Trail N M
  sends v x = record v { sent = v.sent ++ x ∷ [] }

  -- the trail after a message was taken
  abbrev pub gets : Trail N M → M → Trail N M
  gets v x = record v { got = v.got ++ x ∷ [] }

  -- pass 0 after it has made one more, and that one
  abbrev pub founder : Option N → Trail N M → Trail N M
  founder n v = record v { name = n; made = v.made + 1 }

  -- the trail of a new member, which has sent and taken nothing
  abbrev pub member : Option N → Trail N M → Trail N M
  member n v = record { name = n; number = v.made; made = 0; sent = []; got = [] }

  -- `items` is what the queue holds, oldest first, and `views` what each pass knows
  pub record IsInOrder (name_of : M → N) (items : List M) (views : List (Trail N M)) : Type 0 where
    -- what was popped, and for that and what the queue holds, who sent it
    pub got : List M
    pub senders : List ℕ
    pub name : Option N
    pub tagged : length senders ≡ length (got ++ items)
    -- what was popped and then what the queue holds is, of each sender, what it pushed, in its order
    pub each_sent : (p : ℕ) (v : Trail N M) → get_elem? views p ≡ some v → (of p senders (got ++ items) ≡ v.sent) × (v.number ≡ p) × (v.name ≡ name)
    pub later : (p : ℕ) → length views ≤ p → of p senders (got ++ items) ≡ []
    pub reader : (v : Trail N M) → get_elem? views 0 ≡ some v → (v.got ≡ got) × (v.made ≡ length views)
    -- before the queue has its name there is one pass and no message, and then all messages have it
    pub unnamed : name ≡ None → (items ≡ []) × (length views ≡ 1)
    pub named : All (λ x. name ≡ Some (name_of x)) items
    -- no pass has pushed more than 2^50 messages, and there are 4,096 senders at most
    pub bounded : (p : ℕ) (v : Trail N M) → get_elem? views p ≡ some v → length v.sent ≤ 2 ^ 50
    pub few : length views ≤ 4097

  -- at a step of the call the queue held these items, and the rule held of them and of all passes, this one among them
  abbrev pub StandsAt : (M → N) → Trail N M → List M → Type 0
  StandsAt name_of v items = (views : List (Trail N M)) × (pass : ℕ) × IsInOrder name_of items views × (get_elem? views pass ≡ some v)

  -- the trail fits a queue that holds some messages
  abbrev pub Stands : (M → N) → Trail N M → Type 0
  Stands name_of v = (items : List M) × StandsAt name_of v items

  -- at the step of the pop x was at the front of the queue, has the queue's name, and is one of at most 4,097 times 2^50 messages popped
  abbrev pub Fronts : (M → N) → Trail N M → M → Type 0
  Fronts name_of v x = ((rest : List M) × StandsAt name_of v (x ∷ rest)) × (v.name ≡ Some (name_of x)) × (length v.got < 4097 * 2 ^ 50)
