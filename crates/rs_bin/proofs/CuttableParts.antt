-- Each reader of a file needs the bytes that it takes and the field that is bad, and no others.
use Rattle.std.proofs.Common.{◌≡◌, ℕ, zero, suc, ◌+◌, ◌-◌, ◌<◌, ◌≤◌, ◌&&◌, Bool, true, false, cond, leb, ltb, eqb, min, List, [], ◌∷◌, length, take, map, Result, Option, None, Some, Ok, Err, refl, sym, ap, ◌∙◌, arith}
use Rattle.std.proofs.lemmas.Bool.{leb-true, le-leb, ne_eqb, and_parts}
use Rattle.byteorder.specs.Endian.{big_from, big_number}
use Rattle.byteorder.specs.Numbers.{big_from-take}
use Rattle.rs_key.specs.Ranges.{is_range}
use Rattle.rs_bin.specs.Reading.{◌>>=◌, Rest, Read, past, most, with_version, guard, number_at, bytes_at, string_at, bound_at, range_at, boot_room, line_room, operation_room, many_at, same_next, op_at, write_at, pair_at, side_of, split_at, epoch_at, carried_body_at, carried_at, commit_at, body_at, last_tag, entry_at, log_at, log_next, peer_at, peer_next, peers_at, region_at, region_next, store_at, store_next, stores_at, input_at}
use Rattle.rs_entry.specs.declared.entry.Change.TheVariants.{Add, Remove}
use Rattle.rs_entry.specs.declared.entry.CarriedBody.TheVariants as carried
use Rattle.rs_entry.specs.declared.entry.Body.TheVariants as body
use Rattle.rs_entry.specs.declared.entry.Op.TheVariants.{Put, Delete}
use Rattle.rs_bin.proofs.Cuttable.{IsCuttable, then, nothing, choice, alike, field, fields, totals, lists}

-- ---- fields

big_same : (n : ℕ) (xs ys : List ℕ) → take n xs ≡ take n ys → big_number n xs ≡ big_number n ys
big_same n xs ys e = sym (big_from-take 0 n n xs (omega arith)) ∙ (ap (big_from 0 n) e ∙ big_from-take 0 n n ys (omega arith))

number : (n low high : ℕ) → 0 < n → IsCuttable (λ r. number_at n low high r)
unfolding number_at
number n low high some =
    fields n (λ xs. leb n (length xs) && (leb low (big_number n xs) && leb (big_number n xs) high)) (big_number n) (record {
      some = some;
      long = λ xs e. leb-true n (length xs) (and_parts (leb n (length xs)) _ e).0;
      tested = λ xs ys l m e. rw (le-leb n (length xs) l, le-leb n (length ys) m, big_same n xs ys e) refl;
      valued = big_same n;
    })

bytes : (n : ℕ) → IsCuttable (λ r. bytes_at n r)
unfolding bytes_at
bytes zero = alike _ _ (λ r. rw (le-leb 0 (length r.bytes) (omega arith)) refl) (nothing [])
bytes (suc n) =
    fields (suc n) (λ xs. leb (suc n) (length xs)) (take (suc n)) (record {
      some = omega arith;
      long = λ xs e. leb-true (suc n) (length xs) e;
      tested = λ xs ys l m e. rw (le-leb (suc n) (length xs) l, le-leb (suc n) (length ys) m) refl;
      valued = λ xs ys e. e;
    })

string : (low high : ℕ) → IsCuttable (λ r. string_at low high r)
unfolding string_at
string low high = then _ _ (number 2 low high (omega arith)) bytes

abbrev went : {A : Type 0} → A → Rest → Read A
went x r = Ok (x, r)

abbrev right : Bool → ℕ → Result Unit ℕ
right c left = cond c (Ok tt) (Err left)

pick : {A : Type 0} (c : Bool) (x : A) (after : Rest) (left : ℕ) → cond c (went x after) (Err left) ≡ (right c left >>= λ _. Ok (x, after))
pick true x after left = refl
pick false x after left = refl

same_key : (start : Option (List ℕ)) (b : Bool) (text : List ℕ) (after : Rest) (left : ℕ) → cond (b && is_range start (Some text)) (went (Some text) after) (Err left)
    ≡ (cond b (went text after) (Err left) >>= λ key. right (is_range start (Some key.0)) left >>= λ _. Ok (Some key.0, key.1))
same_key start true text after left = pick (is_range start (Some text)) (Some text) after left
same_key start false text after left = refl

abbrev end_key : Option (List ℕ) → ℕ → Rest → Read (Option (List ℕ))
end_key start n r = bytes_at n r >>= λ key. guard (is_range start (Some key.0)) r >>= λ _. Ok (Some key.0, key.1)

key : (start : Option (List ℕ)) (n : ℕ) → IsCuttable (λ r. end_key start (suc n) r)
unfolding bytes_at
key start n =
    alike (λ r. field (suc n) (λ xs. leb (suc n) (length xs) && is_range start (Some (take (suc n) xs))) (λ xs. Some (take (suc n) xs)) r) (λ r. end_key start (suc n) r)
    (λ r. same_key start (leb (suc n) (length r.bytes)) (take (suc n) r.bytes) (past (suc n) r) (length r.bytes))
    (fields (suc n) (λ xs. leb (suc n) (length xs) && is_range start (Some (take (suc n) xs))) (λ xs. Some (take (suc n) xs)) (record {
      some = omega arith;
      long = λ xs e. leb-true (suc n) (length xs) (and_parts (leb (suc n) (length xs)) _ e).0;
      tested = λ xs ys l m e. rw (le-leb (suc n) (length xs) l, le-leb (suc n) (length ys) m, e) refl;
      valued = λ xs ys e. ap (λ (q : List ℕ). Some q) e;
    }))

bound_key : (start : Option (List ℕ)) (n : ℕ) → IsCuttable (λ r. cond (eqb n 0) (Ok (None, r)) (end_key start n r))
bound_key start zero = nothing None
bound_key start (suc n) = let e : eqb (suc n) 0 ≡ false = ne_eqb (suc n) 0 (λ q. omega (arith, q)) in alike (λ r. end_key start (suc n) r) _ (λ r. rw e refl) (key start n)

bound : (start : Option (List ℕ)) → IsCuttable (λ r. bound_at start r)
unfolding bound_at
bound start = then _ _ (number 2 0 256 (omega arith)) (bound_key start)

range : IsCuttable (λ r. range_at r)
unfolding range_at
range = then _ _ (bound None) (λ start. then _ _ (bound start) (λ end. nothing (record { start = start; end = end })))

boots : IsCuttable (λ r. boot_room r)
unfolding boot_room
boots = totals (λ r. ltb r.boots 4096) (λ r. record r { boots = r.boots + 1 }) (λ r bytes. refl) (λ r bytes. refl) (λ r. refl)

lines : IsCuttable (λ r. line_room r)
unfolding line_room
lines = totals (λ r. ltb r.lines 1048576) (λ r. record r { lines = r.lines + 1 }) (λ r bytes. refl) (λ r bytes. refl) (λ r. refl)

operations : IsCuttable (λ r. operation_room r)
unfolding operation_room
operations = totals (λ r. ltb r.operations 1048576) (λ r. record r { operations = r.operations + 1 }) (λ r bytes. refl) (λ r bytes. refl) (λ r. refl)

-- ---- what the version and the totals are

-- a reader that depends on the version
by_version : {A : Type 0} (f : ℕ → Rest → Read A) → ((v : ℕ) → IsCuttable (λ r. f v r)) → IsCuttable (λ r. f r.version r)
by_version f is = record {
  value = λ r x after e. (let v = (is r.version).value r x after e in record { text = v.text; parts = v.parts; same = v.same });
  fault = λ r left e. (let k = (is r.version).fault r left e in record { front = k.front; back = k.back; size = k.size; some = k.some; parts = k.parts; count = k.count; same = k.same });
}

-- a reader of a file whose version was read
of_version : {A : Type 0} (v : ℕ) (f : Rest → Read A) → IsCuttable f → IsCuttable (λ r. f (with_version v r))
of_version v f is = record {
  value = λ r x after e. (let k = is.value (with_version v r) x after e in record { text = k.text; parts = k.parts; same = k.same });
  fault = λ r left e. (let k = is.fault (with_version v r) left e in record { front = k.front; back = k.back; size = k.size; some = k.some; parts = k.parts; count = k.count; same = k.same });
}

-- ---- bodies

op_value : (kind : ℕ) (key : List ℕ) → IsCuttable (λ r. cond (eqb kind 0) (string_at 0 4096 r >>= λ value. Ok (Put key value.0, value.1)) (Ok (Delete key, r)))
op_value kind key = choice (eqb kind 0) _ _ (then _ _ (string 0 4096) (λ value. nothing (Put key value))) (nothing (Delete key))

op : (s left : ℕ) → IsCuttable (λ r. op_at s left r)
unfolding op_at
op s left = then _ _ operations (λ _. then _ _ (number 1 0 1 (omega arith)) (λ kind. then _ _ (string 1 256) (op_value kind)))

write : IsCuttable (λ r. write_at r)
unfolding write_at
write = then _ _ (number 2 1 1024 (omega arith)) (λ n. lists op_at same_next op n 0)

pair : (s left : ℕ) → IsCuttable (λ r. pair_at s left r)
unfolding pair_at
pair s left = then _ _ boots (λ _. then _ _ (number 8 1 most (omega arith)) (λ id. then _ _ (string 1 256) (λ key. nothing (id, key))))

split : IsCuttable (λ r. split_at r)
unfolding split_at
split = then _ _ (number 1 0 1 (omega arith)) (λ side. then _ _ (number 1 1 64 (omega arith)) (λ n. then _ _ (lists pair_at same_next pair n 0)
    (λ pairs. nothing (body.Split (side_of side) (map (λ p. p.0) pairs) (map (λ p. p.1) pairs)))))

epoch : IsCuttable (λ r. epoch_at r)
unfolding epoch_at
epoch = then _ _ lines (λ _. then _ _ (number 8 0 most (omega arith)) (λ conf. then _ _ (number 8 0 most (omega arith)) (λ version. nothing (record { conf_ver = conf; version = version }))))

carried_body : (tag : ℕ) → IsCuttable (λ r. carried_body_at tag r)
unfolding carried_body_at
carried_body tag =
    choice (eqb tag 0) _ _ (nothing carried.Empty) (choice (eqb tag 1) _ _ (then _ _ write (λ ops. nothing (carried.Write ops)))
    (then _ _ (number 8 1 most (omega arith)) (λ target. nothing (carried.Prepare target))))

carried_entry : (commit left : ℕ) → IsCuttable (λ r. carried_at commit left r)
unfolding carried_at
carried_entry commit left =
    then _ _ epoch (λ epoch. then _ _ (number 1 _ _ (omega arith)) (λ tag. then _ _ (carried_body tag) (λ b. nothing (record { index = commit - left; epoch = epoch; body = b }))))

commit : IsCuttable (λ r. commit_at r)
unfolding commit_at
commit =
    then _ _ (number 8 1 most (omega arith)) (λ source. then _ _ (number 8 0 most (omega arith)) (λ commit. then _ _ (number 2 0 (min 4096 (commit - 5)) (omega arith))
    (λ n. then _ _ (lists carried_at same_next carried_entry n commit) (λ cs. nothing (body.Commit source commit cs)))))

of_body : (tag : ℕ) → IsCuttable (λ r. body_at tag r)
unfolding body_at
of_body tag =
    choice (eqb tag 0) _ _ (nothing body.Empty) (choice (eqb tag 1) _ _ (then _ _ write (λ ops. nothing (body.Write ops))) (choice (eqb tag 2) _ _ split
    (choice (eqb tag 3) _ _ (then _ _ (number 8 1 most (omega arith)) (λ target. nothing (body.Prepare target))) (choice (eqb tag 4) _ _ commit
    (choice (eqb tag 5) _ _ (then _ _ (number 8 0 most (omega arith)) (λ commit. nothing (body.Rollback commit)))
    (then _ _ (number 8 1 most (omega arith)) (λ peer. nothing (body.Conf (cond (eqb tag 6) (Add peer) (Remove peer))))))))))

entry : (end left : ℕ) → IsCuttable (λ r. entry_at end left r)
unfolding entry_at
entry end left =
    then _ _ epoch (λ epoch. then _ _ (by_version (λ v r. number_at 1 0 (last_tag v) r) (λ v. number 1 0 (last_tag v) (omega arith)))
    (λ tag. then _ _ (of_body tag) (λ b. nothing (record { index = end - (left + 1); epoch = epoch; body = b }))))

-- ---- the file

log : (before left : ℕ) → IsCuttable (λ r. log_at before left r)
unfolding log_at
log before left =
    then _ _ (number 8 (before + 1) most (omega arith)) (λ id. then _ _ (number 4 0 0xffff_ffff (omega arith))
    (λ n. then _ _ (lists entry_at same_next entry n (n + 6)) (λ entries. nothing (record { region = id; entries = entries }))))

peer : (before left : ℕ) → IsCuttable (λ r. peer_at before left r)
unfolding peer_at
peer before left = number 8 (before + 1) most (omega arith)

peers : IsCuttable (λ r. peers_at r)
unfolding peers_at
peers = by_version (λ v r. cond (eqb v 2) (number_at 1 1 64 r >>= λ n. many_at peer_at peer_next 0 n.0 n.1) (Ok ([], r)))
    (λ v. choice (eqb v 2) _ _ (then _ _ (number 1 1 64 (omega arith)) (λ n. lists peer_at peer_next peer n 0)) (nothing []))

region : (before left : ℕ) → IsCuttable (λ r. region_at before left r)
unfolding region_at
region before left =
    then _ _ boots (λ _. then _ _ (number 8 (before + 1) most (omega arith)) (λ id. then _ _ range (λ range. then _ _ peers (λ peers. nothing (record { region = id; range = range; peers = peers })))))

store : (before left : ℕ) → IsCuttable (λ r. store_at before left r)
unfolding store_at
store before left =
    then _ _ (number 8 (before + 1) most (omega arith)) (λ id. then _ _ (number 4 0 0xffff_ffff (omega arith)) (λ n. then _ _ (lists region_at region_next region n 0)
    (λ regions. then _ _ (number 4 0 0xffff_ffff (omega arith)) (λ k. then _ _ (lists log_at log_next log k 0) (λ logs. nothing (record { id = id; regions = regions; logs = logs }))))))

stores : (version : ℕ) → IsCuttable (λ r. stores_at version r)
unfolding stores_at
stores version = then _ _ (number 4 0 64 (omega arith)) (λ n. then _ _ (lists store_at store_next store n 0) (λ stores. nothing (record { version = version; stores = stores })))

pub input : IsCuttable (λ r. input_at r)
unfolding input_at
input = then _ _ (number 4 0x5252_4c31 0x5252_4c31 (omega arith)) (λ _. then _ _ (number 1 1 2 (omega arith)) (λ version. of_version version _ (stores version)))
