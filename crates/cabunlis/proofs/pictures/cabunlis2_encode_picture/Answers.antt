-- The writer of pictures, its answer as the struct. Assumes nothing.
use Rattle.cabunlis.specs.HostLaws.{host_picture}
use Rattle.cabunlis.proofs.pictures.cabunlis2_encode_picture.Goals as goal

pub shape_of-recon0 : goal.shape_of-recon0
shape_of-recon0 c = c.recon0-1.given

pub shape_of-vx0 : goal.shape_of-vx0
shape_of-vx0 c = c.vx0-1.given

pub shape_of-vy0 : goal.shape_of-vy0
shape_of-vy0 c = c.vy0-1.given

pub shape_of-stated0 : goal.shape_of-stated0
shape_of-stated0 c = c.stated0-1.given

pub shape_of-recon1 : goal.shape_of-recon1
shape_of-recon1 c = c.recon1-1.given

pub shape_of-vx1 : goal.shape_of-vx1
shape_of-vx1 c = c.vx1-1.given

pub shape_of-vy1 : goal.shape_of-vy1
shape_of-vy1 c = c.vy1-1.given

pub shape_of-stated1 : goal.shape_of-stated1
shape_of-stated1 c = c.stated1-1.given

pub shape_of-recon2 : goal.shape_of-recon2
shape_of-recon2 c = c.recon2-1.given

pub shape_of-vx2 : goal.shape_of-vx2
shape_of-vx2 c = c.vx2-1.given

pub shape_of-vy2 : goal.shape_of-vy2
shape_of-vy2 c = c.vy2-1.given

pub shape_of-stated2 : goal.shape_of-stated2
shape_of-stated2 c = c.stated2-1.given

pub shape_of-out : goal.shape_of-out
shape_of-out c = c.out-1.given

pub returns : goal.returns
returns c =
    host_picture _ _ _ _ _ _ _ _ _ (rw c.settings_of-settings.ensures at c.encode_picture-e.ensures) c.picture_answer.ensures
