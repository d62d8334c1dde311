use Rattle.std.proofs.Common.{[], ◌∷◌, ◌++◌, length, Err, decimal, ap, ◌∙◌, sym, subst}
use Rattle.output.specs.Outputs.{Puts}
use Rattle.page.specs.Names.{left, names_of}
use Rattle.page.specs.Pages.{counted_names, name_fields}
use Rattle.page.proofs.Pieces.{Writing, piece_break, piece_put, start}
use Rattle.page.proofs.chosen.Chosen.put.Goals as goal
use Rattle.page.proofs.chosen.Chosen.put.Goals.{In_ok-put}

comma : (c : In_ok-put) → Writing (counted_names (names_of c.args.self.now)) (decimal (length (names_of c.args.self.now)) ++ name_fields (names_of c.args.self.now)) c.args.out.now c.put.new.self
comma c =
    let names = names_of c.args.self.now in
    piece_put (counted_names names) (44 ∷ []) (decimal (length names) ++ name_fields names) c.args.out.now _ (start (counted_names names) c.args.out.now c.requires.room) c.put.new.self _ c.put.ensures.puts

pub returns-in_err-put_number : goal.returns-in_err-put_number
returns-in_err-put_number c =
    let names = names_of c.args.self.now in
    piece_break (counted_names names) (decimal (length names)) (name_fields names) c.args.out.now c.put.new.self (comma (goal.at.returns-in_err-put_number c).In_ok-put) c.put_number.new.self _
    (subst (λ n. Puts (decimal n) c.put.new.self (Err c.in_err-put_number.field-0.0) c.put_number.new.self) c.count.ensures.value c.in_err-put_number.ensures.puts)

pub loop-name-init : goal.loop-name-init
loop-name-init c =
    let names = names_of c.args.self.now in
    let w = piece_put (counted_names names) (decimal (length names)) (name_fields names) c.args.out.now c.put.new.self (comma (goal.at.loop-name-init c).In_ok-put) c.put_number.new.self _
    (subst (λ n. Puts (decimal n) c.put.new.self c.put_number.result c.put_number.new.self) c.count.ensures.value c.put_number.ensures.puts) in
    let all = ap left c.into_iter-name-iterator.ensures.into_iter_gives ∙ c.names-name-items.ensures.all in
    (tt, tt, subst (λ xs. Writing (counted_names names) (name_fields xs) c.args.out.now c.put_number.new.self) (sym all) w)

pub returns-in_err-put-2 : goal.returns-in_err-put-2
returns-in_err-put-2 c =
    let all = counted_names (names_of c.args.self.now) in
    let rest = c.in-Some.name.now ++ name_fields (left c.next.new.self) in
    let w = subst (λ xs. Writing all (name_fields xs) c.args.out.now c.loop-name.out) c.in-Some.ensures.steps c.loop-name.invariant.2 in
    piece_break all (44 ∷ []) rest c.args.out.now c.loop-name.out w c.put-in-loop-name.new.self _ c.in_err-put-2.ensures.puts

pub returns-in_err-put-3 : goal.returns-in_err-put-3
returns-in_err-put-3 c =
    let all = counted_names (names_of c.args.self.now) in
    let rest = name_fields (left c.next.new.self) in
    let w = subst (λ xs. Writing all (name_fields xs) c.args.out.now c.loop-name.out) c.in-Some.ensures.steps c.loop-name.invariant.2 in
    let v = piece_put all (44 ∷ []) (c.in-Some.name.now ++ rest) c.args.out.now _ w c.put-in-loop-name.new.self _ c.put-in-loop-name.ensures.puts in
    piece_break all c.in-Some.name.now rest c.args.out.now c.put-in-loop-name.new.self v c.put-in-loop-name-2.new.self _ c.in_err-put-3.ensures.puts

pub loop-name-preserved : goal.loop-name-preserved
loop-name-preserved c =
    let all = counted_names (names_of c.args.self.now) in
    let rest = name_fields (left c.next.new.self) in
    let w = subst (λ xs. Writing all (name_fields xs) c.args.out.now c.loop-name.out) c.in-Some.ensures.steps c.loop-name.invariant.2 in
    let v = piece_put all (44 ∷ []) (c.in-Some.name.now ++ rest) c.args.out.now _ w c.put-in-loop-name.new.self _ c.put-in-loop-name.ensures.puts in
    (tt, tt, piece_put all c.in-Some.name.now rest c.args.out.now c.put-in-loop-name.new.self v c.put-in-loop-name-2.new.self _ c.put-in-loop-name-2.ensures.puts)
